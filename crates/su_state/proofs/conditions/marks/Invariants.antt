use Rattle.std.proofs.Common.{◌≡◌, take, map, not}
use Rattle.su_where.specs.Truth.{truth_of}
use Rattle.su_state.proofs.conditions.marks.Given as goal

abbrev pub invariant-loop-row : goal.invariant-loop-row
invariant-loop-row l = l.marks.items ≡ map (λ row. not (truth_of l.condition row)) (take l.row-index l.rows)
