use Rattle.std.proofs.Common.{ℕ, ◌<◌, [], get_or, Option}
use Rattle.su_reduce.specs.inside.Partners.{In, IsParentBy, without}
use Rattle.su_reduce.proofs.orders.find_ear.Given as goal

abbrev pub invariant-loop-e : goal.invariant-loop-e
invariant-loop-e l = (e : ℕ) (parent : Option ℕ) → e < l.e → In l.left e → ¬ IsParentBy (get_or l.table e []) (without l.left e) parent
