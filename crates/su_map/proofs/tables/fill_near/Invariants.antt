use Rattle.std.proofs.Common.{◌≡◌, ◌≢◌, ℕ, ◌<◌, get_or, Contains}
use Rattle.std.specs.Int.{bit_at}
use Rattle.su_tableau.specs.declared.symbols.Sym.TheVariants.{Var}
use Rattle.su_map.specs.Lists.{row_of}
use Rattle.su_map.proofs.tables.fill_near.Given as goal

abbrev pub invariant-loop-i : goal.invariant-loop-i
invariant-loop-i l = (p : ℕ) → p < l.i → bit_at l.mask p ≡ 1 → (k q : ℕ) → Contains (row_of l.from p) (Var k) → (Contains l.from.head (Var k) → ⊥) → p ≢ q → bit_at (get_or l.rows_of k 0) q ≡ 1 → bit_at (get_or l.near p 0) q ≡ 1
