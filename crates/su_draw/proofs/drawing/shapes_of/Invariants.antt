use Rattle.std.proofs.Common.{◌≡◌, ◌++◌}
use Rattle.std.specs.Prelude.{All}
use Rattle.std.specs.Vec.Iter.{into_iter_items}
use Rattle.su_draw.specs.Once.{things_in_shapes}
use Rattle.su_draw.specs.inside.Lay.{IsLaid, IsRinged, table_of}
use Rattle.su_draw.proofs.drawing.shapes_of.Given as goal

abbrev pub invariant-loop-thing : goal.invariant-loop-thing
invariant-loop-thing l = record {
  rest : l.fn.things ≡ l.yielded ++ into_iter_items l.thing-iterator;
  placed : things_in_shapes l.shapes ≡ l.yielded;
  made : l.table ≡ table_of l.plan.layout.left l.plan.layout.lines.now l.table.term;
  laid : All (IsLaid l.plan.layout) l.shapes;
  ringed : All (IsRinged l.plan.core) l.shapes;
}
