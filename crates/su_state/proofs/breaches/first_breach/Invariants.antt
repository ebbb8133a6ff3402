use Rattle.std.proofs.Common.{◌<◌, ℕ}
use Rattle.su_state.specs.Breaches.{Breach, IsBreachWith}
use Rattle.su_state.specs.inside.SomeBreaches.{OfDependency}
use Rattle.su_state.proofs.breaches.first_breach.Given as goal

abbrev pub invariant-loop-fd : goal.invariant-loop-fd
invariant-loop-fd l = (f : ℕ) → f < l.fd → (b : Breach) → ¬ OfDependency f (IsBreachWith l.schema l.relation l.table.rows l.row) b
