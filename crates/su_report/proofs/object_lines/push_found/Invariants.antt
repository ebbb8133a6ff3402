use Rattle.std.proofs.Common.{◌≡◌, ◌++◌, flat_map, take}
use Rattle.su_report.specs.ObjectLines.{key_line}
use Rattle.su_report.proofs.object_lines.push_found.Given as goal

abbrev pub invariant-loop-key : goal.invariant-loop-key
invariant-loop-key l = l.out.items ≡ l.fn.out.items ++ flat_map (key_line l.schema l.o l.by) (take l.key-index l.keys)
