use Rattle.std.proofs.Common.{◌≡◌, ◌++◌, flat_map, take}
use Rattle.su_report.specs.UnusedLines.{column_lines}
use Rattle.su_report.proofs.unused_lines.push_columns.Given as goal

abbrev pub invariant-loop-c : goal.invariant-loop-c
invariant-loop-c l = l.out.items ≡ l.fn.out.items ++ flat_map (column_lines l.schema l.r) (take l.c-index l.found)
