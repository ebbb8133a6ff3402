use Rattle.std.proofs.Common.{◌≡◌, ℕ, ◌<◌, get_or, Contains}
use Rattle.std.specs.Int.{bit_at}
use Rattle.su_tableau.specs.declared.symbols.Sym.TheVariants.{Var}
use Rattle.su_map.specs.Lists.{row_of}
use Rattle.su_map.specs.inside.Targets.{IsPlain}
use Rattle.su_map.proofs.tables.note_rows.Given as goal

abbrev pub invariant-loop-i : goal.invariant-loop-i
invariant-loop-i l = record {
  noted : (p : ℕ) → p < l.i → bit_at l.mask p ≡ 1 → (k : ℕ) → Contains (row_of l.from p) (Var k) → bit_at (get_or l.rows_of k 0) p ≡ 1;
  plain : (p : ℕ) → p < l.i → bit_at l.mask p ≡ 1 → (bit_at l.repeating p ≡ 1 → ⊥) → IsPlain (row_of l.from p);
}
