use Rattle.std.proofs.Common.{ℕ, ◌<◌, Some}
use Rattle.su_reduce.specs.inside.Partners.{IsParentBy}
use Rattle.su_reduce.proofs.sharing.parent_of.Given as goal

abbrev pub invariant-loop-p : goal.invariant-loop-p
invariant-loop-p l = (i : ℕ) → i < l.p → ¬ IsParentBy l.sets l.others (Some i)
