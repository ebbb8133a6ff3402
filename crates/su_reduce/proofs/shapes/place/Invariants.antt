use Rattle.std.proofs.Common.{◌≡◌, ℕ, ◌<◌}
use Rattle.su_tableau.specs.declared.symbols.Sym.TheVariants.{Var}
use Rattle.su_reduce.specs.Shapes.{cell_at}
use Rattle.su_reduce.proofs.shapes.place.Given as goal

abbrev pub invariant-loop-p : goal.invariant-loop-p
invariant-loop-p l = (i : ℕ) → i < l.p → cell_at l.cells i ≡ Var l.k → ⊥
