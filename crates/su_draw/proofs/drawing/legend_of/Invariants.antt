use Rattle.std.proofs.Common.{◌≡◌, ◌++◌}
use Rattle.std.specs.Vec.Iter.{into_iter_items}
use Rattle.su_draw.specs.Signs.{signs_of, signs_in}
use Rattle.su_draw.proofs.drawing.legend_of.Given as goal

abbrev pub invariant-loop-sign : goal.invariant-loop-sign
invariant-loop-sign l = record {
  rest : signs_in l.shapes ≡ l.yielded ++ into_iter_items l.sign-iterator;
  made : signs_of l.legend ≡ l.yielded;
}
