use Rattle.std.proofs.Common.{◌≡◌, ◌++◌, flat_map, take}
use Rattle.std.specs.Prelude.{codes}
use Rattle.su_draw.specs.Xml.{attribute_text}
use Rattle.su_draw.specs.inside.Pairs.{attributes_of}
use Rattle.su_draw.proofs.elements.open.Given as goal

abbrev pub invariant-loop-one : goal.invariant-loop-one
invariant-loop-one l = l.out.items ≡ l.fn.out.items ++ (codes "<" ++ l.name ++ flat_map attribute_text (attributes_of (take l.one-index l.pairs)))
