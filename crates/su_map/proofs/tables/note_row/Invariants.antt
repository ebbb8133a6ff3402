use Rattle.std.proofs.Common.{◌≡◌, ℕ, ◌<◌, get_or, false}
use Rattle.std.specs.Int.{bit_at}
use Rattle.su_tableau.specs.declared.symbols.Sym.TheVariants.{Var}
use Rattle.su_map.proofs.tables.note_row.Given as goal

abbrev pub invariant-loop-x : goal.invariant-loop-x
invariant-loop-x l = record {
  kept : (k q : ℕ) → bit_at (get_or l.initial.rows_of k 0) q ≡ 1 → bit_at (get_or l.rows_of k 0) q ≡ 1;
  noted : (p : ℕ) → p < l.x-index → (k : ℕ) → get_or l.row p (Var k) ≡ Var k → bit_at (get_or l.rows_of k 0) l.i ≡ 1;
  plain : l.repeats ≡ false → (p : ℕ) → p < l.x-index → (e k : ℕ) → e < p → get_or l.row p (Var k) ≡ Var k → get_or l.row e (Var k) ≡ Var k → ⊥;
}
