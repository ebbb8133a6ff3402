use Rattle.std.proofs.Common.{◌≡◌, ℕ, ◌+◌, ◌*◌, ◌<◌, ◌↔◌, length, get_or}
use Rattle.std.specs.Int.{bit_at}
use Rattle.su_tableau.specs.declared.symbols.Sym.{Sym}
use Rattle.su_map.specs.Lists.{row_of}
use Rattle.su_map.proofs.sides.fill_column.Given as goal

abbrev pub invariant-loop-p : goal.invariant-loop-p
invariant-loop-p l = record {
  before : (x : ℕ) → x < l.column * 64 → get_or l.alike x 0 ≡ get_or l.initial.alike x 0;
  filled : (p : ℕ) → p < l.p → (j : ℕ) → (bit_at (get_or l.alike (l.column * 64 + p) 0) j ≡ 1) ↔ ((j < length l.to.rows) × ((d : Sym) → get_or (row_of l.to p) l.column d ≡ get_or (row_of l.to j) l.column d));
}
