-- A sign found at the front is a token of its own length.
use Rattle.std.proofs.Common.{sym}
use Rattle.su_lex.proofs.Fronts.{sign_found}
use Rattle.su_lex.proofs.firsts.first.Goals as goal

pub returns-in-Some-clause-found : goal.returns-in-Some-clause-found
returns-in-Some-clause-found c = rw c.sign_len.ensures (sign_found c.args.text.now c.in-Some.s (sym c.in-Some.ensures))
