use Rattle.std.proofs.Common.{◌≡◌, ◌++◌, flat_map, take}
use Rattle.su_report.specs.CycleLines.{breaker_line}
use Rattle.su_report.proofs.cycle_lines.push_breakers.Given as goal

abbrev pub invariant-loop-set : goal.invariant-loop-set
invariant-loop-set l = l.out.items ≡ l.fn.out.items ++ flat_map (breaker_line l.schema) (take l.set-index l.set-items)
