-- The cells so far are the row's: the name of a pair, or a symbol of the row's own.
use Rattle.std.proofs.Common.{◌*◌}
use Rattle.su_steps.specs.inside.Numbers.{class_name}
use Rattle.su_steps.proofs.Made.{cells_more}
use Rattle.su_steps.proofs.building.row.Goals as goal

pub loop-a-preserved : goal.loop-a-preserved
loop-a-preserved c =
    cells_more c.args.schema.now (class_name (c.args.variables * c.args.classes.now.width) c.args.classes.now) c.args.own c.args.origin.now c.args.classes.now.width c.loop-a.a c.object_attributes-attributes.result _ _ _ c.requires.width c.object_attributes-attributes.ensures c.loop-a.invariant c.in_ok-cell.ensures c.in_ok-push.ensures.ok
