use Rattle.std.proofs.Common.{◌<◌, ℕ}
use Rattle.su_state.specs.Breaches.{Breach, IsBreachWith}
use Rattle.su_state.specs.inside.SomeBreaches.{OfDependency, ThroughObject}
use Rattle.su_state.proofs.breaches.breach_of.Given as goal

abbrev pub invariant-loop-object : goal.invariant-loop-object
invariant-loop-object l = (o : ℕ) → o < l.object → (b : Breach) → ¬ ThroughObject o (OfDependency l.fd (IsBreachWith l.schema l.relation l.table.rows l.row)) b
