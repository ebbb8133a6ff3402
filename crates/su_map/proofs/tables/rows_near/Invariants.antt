use Rattle.std.proofs.Common.{◌≡◌, ◌≢◌, ℕ, ◌<◌, get_or, Contains}
use Rattle.std.specs.Int.{bit_at}
use Rattle.su_tableau.specs.declared.symbols.Sym.TheVariants.{Var}
use Rattle.su_map.proofs.tables.rows_near.Given as goal

abbrev pub invariant-loop-x : goal.invariant-loop-x
invariant-loop-x l = (p : ℕ) → p < l.x-index → (k q : ℕ) → get_or l.row p (Var k) ≡ Var k → (Contains l.head (Var k) → ⊥) → l.i ≢ q → bit_at (get_or l.rows_of k 0) q ≡ 1 → bit_at l.rows q ≡ 1
