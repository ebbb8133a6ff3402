use Rattle.std.proofs.Common.{ℕ, ◌<◌, get_or}
use Rattle.su_classes.specs.declared.items.Together.{Together}
use Rattle.su_classes_tests.proofs.tests.are_within.Given as goal

abbrev pub invariant-loop-e : goal.invariant-loop-e
invariant-loop-e l = (k : ℕ) (d : Together) → k < l.e-index → ((get_or l.equal k d).left < l.items) × ((get_or l.equal k d).right < l.items)
