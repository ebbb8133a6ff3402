-- A bit of the conjunction is set where the bits of both are.
use Rattle.su_tableau.proofs.Members.{and_both}
use Rattle.su_tableau.proofs.masks.both.Goals as goal

pub returns : goal.returns
returns c = and_both c.args.a c.args.b
