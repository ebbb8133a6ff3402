-- Lists of operators are equal as the test of their members says.
use Rattle.su_min.proofs.Likeness.{ops_eq-Decides}
use Rattle.su_min.proofs.alike.are_same.Goals as goal

pub returns : goal.returns
returns c = ops_eq-Decides c.args.xs.now c.args.ys.now c.eq.result c.eq.ensures
