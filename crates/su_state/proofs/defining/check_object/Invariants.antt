use Rattle.std.proofs.Common.{◌<◌, ℕ}
use Rattle.su_state.specs.Breaches.{Breach}
use Rattle.su_state.specs.NewBreaches.{IsStoredBreach}
use Rattle.su_state.specs.inside.SomeBreaches.{OfDependency, ThroughObject}
use Rattle.su_state.proofs.defining.check_object.Given as goal

abbrev pub invariant-loop-fd : goal.invariant-loop-fd
invariant-loop-fd l = (f : ℕ) → f < l.fd → (b : Breach) → ¬ ThroughObject l.object (OfDependency f (IsStoredBreach l.schema l.tables)) b
