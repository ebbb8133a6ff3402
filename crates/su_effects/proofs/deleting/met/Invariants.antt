use Rattle.std.proofs.Common.{◌≡◌, take, filter}
use Rattle.su_where.specs.Truth.{truth_of}
use Rattle.su_effects.proofs.deleting.met.Given as goal

abbrev pub invariant-loop-row : goal.invariant-loop-row
invariant-loop-row l = l.met ≡ filter (λ row. truth_of l.cond row) (take l.row-index l.rows)
