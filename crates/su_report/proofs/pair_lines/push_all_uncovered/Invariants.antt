use Rattle.std.proofs.Common.{◌≡◌, ◌++◌, flat_map, take}
use Rattle.su_report.specs.PairLines.{uncovered_line}
use Rattle.su_report.proofs.pair_lines.push_all_uncovered.Given as goal

abbrev pub invariant-loop-b : goal.invariant-loop-b
invariant-loop-b l = l.out.items ≡ l.fn.out.items ++ flat_map (uncovered_line l.schema l.a) (take l.b-index l.found)
