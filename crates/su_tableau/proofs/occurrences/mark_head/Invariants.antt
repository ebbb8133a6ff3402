use Rattle.std.proofs.Common.{◌≡◌, ◌↔◌, ◌⊎◌, ◌<◌, ℕ, get_or}
use Rattle.su_tableau.specs.declared.symbols.Sym.TheVariants.{Var}
use Rattle.su_tableau.specs.declared.occurrences.Times.TheVariants.{Again}
use Rattle.su_tableau.specs.inside.Occurrences.{times_of}
use Rattle.su_tableau.proofs.occurrences.mark_head.Given as goal

abbrev pub invariant-loop-x : goal.invariant-loop-x
invariant-loop-x l = (k : ℕ) → (times_of l.times k ≡ Again) ↔ (((i : ℕ) × (i < l.x-index) × (get_or l.head i (Var k) ≡ Var k)) ⊎ (times_of l.initial.times k ≡ Again))
