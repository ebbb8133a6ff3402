use Rattle.std.proofs.Common.{◌≡◌, ◌++◌, take, flat_map}
use Rattle.su_dangling_text.specs.Lines.{object_lines}
use Rattle.su_dangling_text.proofs.telling.push_objects.Given as goal

abbrev pub invariant-loop-one : goal.invariant-loop-one
invariant-loop-one l = l.out.items ≡ l.fn.out.items ++ flat_map (object_lines l.schema l.scope) (take l.one-index l.found)
