use Rattle.std.proofs.Common.{◌≡◌, ◌++◌, flat_map, take}
use Rattle.su_draw.specs.Shapes.{shape_text}
use Rattle.su_draw.proofs.writing.shape_elements.Given as goal

abbrev pub invariant-loop-shape : goal.invariant-loop-shape
invariant-loop-shape l = l.out.items ≡ l.fn.out.items ++ flat_map shape_text (take l.shape-index l.shapes)
