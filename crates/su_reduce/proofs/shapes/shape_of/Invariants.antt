use Rattle.su_reduce.specs.Shapes.{IsShapeOf}
use Rattle.su_reduce.proofs.shapes.shape_of.Given as goal

abbrev pub invariant-loop-p : goal.invariant-loop-p
invariant-loop-p l = IsShapeOf l.cells l.p l.shape.vars.items l.shape.firsts.items l.shape.places.items
