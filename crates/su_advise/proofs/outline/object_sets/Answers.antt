-- The sets so far are those of the objects so far, and the next object's comes to the end.
use Rattle.std.proofs.Common.{◌<◌, length, arith}
use Rattle.std.specs.FinSet.{empty}
use Rattle.std.proofs.lemmas.List.{length-map}
use Rattle.su_schema.specs.Entries.{attributes_of}
use Rattle.su_maxobj.specs.MaximalObjects.{object_sets}
use Rattle.su_advise.proofs.Readings.{front_more}
use Rattle.su_advise.proofs.outline.object_sets.Goals as goal

pub loop-o-preserved : goal.loop-o-preserved
loop-o-preserved c =
    let low : c.loop-o.o < length (object_sets c.args.schema.now) = omega (arith, length-map c.args.schema.now.objects attributes_of, c.loop-o-test.true) in
    front_more (object_sets c.args.schema.now) _ _ c.loop-o.o _ empty low c.object_attributes.ensures c.loop-o.invariant c.in_ok-push.ensures.ok
