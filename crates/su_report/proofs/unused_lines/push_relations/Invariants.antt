use Rattle.std.proofs.Common.{◌≡◌, ◌++◌, flat_map, take}
use Rattle.su_report.specs.UnusedLines.{relation_lines}
use Rattle.su_report.proofs.unused_lines.push_relations.Given as goal

abbrev pub invariant-loop-r : goal.invariant-loop-r
invariant-loop-r l = l.out.items ≡ l.fn.out.items ++ flat_map (relation_lines l.schema) (take l.r-index l.found)
