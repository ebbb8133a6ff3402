use Rattle.std.proofs.Common.{◌≡◌, ◌++◌, flat_map, take}
use Rattle.su_report.specs.UnusedLines.{alone_lines}
use Rattle.su_report.proofs.unused_lines.push_lone_objects.Given as goal

abbrev pub invariant-loop-o : goal.invariant-loop-o
invariant-loop-o l = l.out.items ≡ l.fn.out.items ++ flat_map (alone_lines l.schema) (take l.o-index l.found)
