use Rattle.std.proofs.Common.{◌≡◌, ◌++◌, flat_map, take}
use Rattle.su_state.specs.Breaches.{fd_at}
use Rattle.su_report.specs.DependencyLines.{breaking_lines}
use Rattle.su_report.proofs.object_parts.push_broken.Given as goal

abbrev pub invariant-loop-i : goal.invariant-loop-i
invariant-loop-i l = l.out.items ≡ l.fn.out.items ++ flat_map (λ i. breaking_lines l.schema l.fn.o (fd_at l.schema i)) (take l.i-index l.i-items)
