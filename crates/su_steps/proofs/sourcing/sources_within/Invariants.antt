use Rattle.std.proofs.Common.{◌≡◌, ◌↔◌, ◌<◌, ℕ, true}
use Rattle.std.specs.FinSet.{contains, is_subset}
use Rattle.su_steps.specs.Objects.{attributes_at}
use Rattle.su_steps.proofs.sourcing.sources_within.Given as goal

abbrev pub invariant-loop-o : goal.invariant-loop-o
invariant-loop-o l = (o : ℕ) → (contains l.found o ≡ true) ↔ ((o < l.o) × (is_subset l.columns (attributes_at l.schema o) ≡ true))
