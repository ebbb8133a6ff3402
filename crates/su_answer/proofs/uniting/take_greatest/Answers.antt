-- Of two ascending lists the greatest row is the last of the one whose last row is greater, and the last of both where these two are equal.
use Rattle.su_answer.proofs.Greatest.{of_one, of_other, of_both, order_of}
use Rattle.su_answer.proofs.uniting.take_greatest.Goals as goal

pub returns-in-Less : goal.returns-in-Less
returns-in-Less c =
    of_other c.args.left.now c.args.right.now c.pop.new.self c.pop.result c.requires.left
    (order_of c.args.left.now c.args.right.now c.as_slice.result.now c.as_slice-2.result.now c.compare_last.result _ c.compare_last.ensures c.as_slice.ensures c.as_slice-2.ensures c.in-Less.is) c.pop.ensures

pub returns-in-Greater : goal.returns-in-Greater
returns-in-Greater c =
    of_one c.args.left.now c.args.right.now c.pop-in-Greater.new.self c.pop-in-Greater.result c.requires.right
    (order_of c.args.left.now c.args.right.now c.as_slice.result.now c.as_slice-2.result.now c.compare_last.result _ c.compare_last.ensures c.as_slice.ensures c.as_slice-2.ensures c.in-Greater.is) c.pop-in-Greater.ensures

pub returns-in-Equal : goal.returns-in-Equal
returns-in-Equal c =
    of_both c.args.left.now c.args.right.now c.pop-in-Equal-2.new.self c.pop-in-Equal.new.self c.pop-in-Equal-2.result c.pop-in-Equal.result
    (order_of c.args.left.now c.args.right.now c.as_slice.result.now c.as_slice-2.result.now c.compare_last.result _ c.compare_last.ensures c.as_slice.ensures c.as_slice-2.ensures c.in-Equal.is) c.pop-in-Equal-2.ensures c.pop-in-Equal.ensures
