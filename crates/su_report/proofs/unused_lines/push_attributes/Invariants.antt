use Rattle.std.proofs.Common.{◌≡◌, ◌++◌, flat_map, take}
use Rattle.su_report.specs.UnusedLines.{attribute_lines}
use Rattle.su_report.proofs.unused_lines.push_attributes.Given as goal

abbrev pub invariant-loop-a : goal.invariant-loop-a
invariant-loop-a l = l.out.items ≡ l.fn.out.items ++ flat_map (attribute_lines l.schema) (take l.a-index l.found)
