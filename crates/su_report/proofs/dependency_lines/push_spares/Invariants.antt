use Rattle.std.proofs.Common.{◌≡◌, ◌++◌, flat_map, take}
use Rattle.su_report.specs.DependencyLines.{spare_lines}
use Rattle.su_report.proofs.dependency_lines.push_spares.Given as goal

abbrev pub invariant-loop-a : goal.invariant-loop-a
invariant-loop-a l = l.out.items ≡ l.fn.out.items ++ flat_map (spare_lines l.schema l.fd) (take l.a-index l.found)
