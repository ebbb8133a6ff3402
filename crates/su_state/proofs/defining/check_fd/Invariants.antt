use Rattle.std.proofs.Common.{◌<◌, ℕ}
use Rattle.su_state.specs.Breaches.{Breach}
use Rattle.su_state.specs.NewBreaches.{IsStoredBreach}
use Rattle.su_state.specs.inside.SomeBreaches.{OfDependency, ThroughObject}
use Rattle.su_state.proofs.defining.check_fd.Given as goal

abbrev pub invariant-loop-object : goal.invariant-loop-object
invariant-loop-object l = (o : ℕ) → o < l.object → (b : Breach) → ¬ ThroughObject o (OfDependency l.fd (IsStoredBreach l.schema l.tables)) b
