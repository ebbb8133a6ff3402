-- A number that has bit i alone changes no bit but i, and sets that.
use Rattle.su_tableau.proofs.Members.{with_same, with_member}
use Rattle.su_tableau.proofs.masks.with.Goals as goal

pub returns-clause-same : goal.returns-clause-same
returns-clause-same c = λ j ne. with_same c.args.set c.args.i j c.requires.small ne

pub returns-clause-member : goal.returns-clause-member
returns-clause-member c = with_member c.args.set c.args.i c.requires.small
