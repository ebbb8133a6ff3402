-- Where no quote is found every byte stands before the first one.
use Rattle.std.proofs.Common.{sym, not, ◌==◌}
use Rattle.su_lex.proofs.Runs.{none_other}
use Rattle.su_lex.proofs.bytes.unquoted_bytes.Goals as goal

pub returns-in-None-clause-count : goal.returns-in-None-clause-count
returns-in-None-clause-count c = none_other (λ b. not (b == 39)) _ (sym c.in-None.ensures)
