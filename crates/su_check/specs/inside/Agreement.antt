-- Rows with their targets, cell by cell.
-- target: the row to which a row goes; xs, ys: two rows; us, vs: their targets; c, e: columns, from 0
-- No public contract cites this module.
use Rattle.std.specs.Prelude.{◌≡◌, ◌<◌, ℕ, List, true, length}
use Rattle.su_tableau.specs.declared.symbols.Sym.{Sym}
use Rattle.su_check.specs.inside.Cells.{cell_at, is_const}

-- where a row has a constant, its target has it too
abbrev pub KeepsConstants : List Sym → List Sym → Type 0
KeepsConstants xs us = (c : ℕ) → c < length xs → is_const (cell_at xs c) ≡ true → cell_at xs c ≡ cell_at us c

-- where the row ys has the symbol x, its target vs has u
abbrev pub IsSentTo : Sym → Sym → List Sym → List Sym → Type 0
IsSentTo x u ys vs = (e : ℕ) → e < length ys → x ≡ cell_at ys e → u ≡ cell_at vs e

-- where the rows xs and ys have one symbol, their targets us and vs have one
abbrev pub GoAlike : List Sym → List Sym → List Sym → List Sym → Type 0
GoAlike xs us ys vs = (c : ℕ) → c < length xs → IsSentTo (cell_at xs c) (cell_at us c) ys vs

-- the row goes to the target by itself, beside the head
pub record Goes (head row target : List Sym) : Type 0 where
  pub constants : KeepsConstants row target
  pub itself : GoAlike row target row target
  pub head_symbols : GoAlike head head row target
