use Rattle.std.proofs.Common.{◌≡◌, ◌≢◌, ℕ, ◌<◌}
use Rattle.su_tableau.specs.declared.symbols.Sym.TheVariants.{Var}
use Rattle.su_tableau.specs.Essential.{HasSymbol}
use Rattle.su_tableau.proofs.essential_columns.stands_elsewhere.Given as goal

abbrev pub invariant-loop-i : goal.invariant-loop-i
invariant-loop-i l = (i : ℕ) (c : ℕ) → i < l.i → HasSymbol l.t l.mask i c (Var l.k) → (i ≡ l.row → c ≢ l.column) → ⊥
