-- How often each variable was met in the rows of a set.
-- cell: a row number and a column; met: one of the cells passed holds the variable
-- No public contract cites this module.
use Rattle.std.specs.Prelude.{◌≡◌, ◌≢◌, ℕ, ◌<◌, ◌↔◌, ◌⊎◌, List, get_or, Contains}
use Rattle.su_base.specs.declared.values.Value.{Value}
use Rattle.su_tableau.specs.declared.symbols.Sym.{Sym}
use Rattle.su_tableau.specs.declared.symbols.Sym.TheVariants.{Const, Var}
use Rattle.su_tableau.specs.declared.occurrences.Times.{Times}
use Rattle.su_tableau.specs.declared.occurrences.Times.TheVariants.{Never, Once, Again}
use Rattle.su_tableau.specs.Tableaux.{Tab}
use Rattle.su_tableau.specs.Essential.{HasSymbol}

-- after one time more
abbrev pub more : Times → Times
more Never = Once
more Once = Again
more Again = Again

-- how often variable k was met
abbrev pub times_of : List Times → ℕ → Times
times_of times k = get_or times k Never

-- two different cells are such
pub record IsTwice (H : ℕ → ℕ → Type 0) : Type 0 where
  pub row : ℕ
  pub column : ℕ
  pub other_row : ℕ
  pub other_column : ℕ
  pub one : H row column
  pub other : H other_row other_column
  pub apart : row ≡ other_row → column ≢ other_column

-- one cell is such, and no other
pub record IsOnce (H : ℕ → ℕ → Type 0) : Type 0 where
  pub row : ℕ
  pub column : ℕ
  pub one : H row column
  pub only : (r c : ℕ) → H r c → (r ≡ row) × (c ≡ column)

-- so many cells are such
abbrev pub IsCount : (ℕ → ℕ → Type 0) → Times → Type 0
IsCount H Never = (r c : ℕ) → H r c → ⊥
IsCount H Once = IsOnce H
IsCount H Again = IsTwice H

-- the cell is in the set and holds the variable
abbrev pub CellHolds : Tab → ℕ → ℕ → ℕ → ℕ → Type 0
CellHolds t m k r c = HasSymbol t m r c (Var k)

-- it is in a row before, or in this row at a column before
abbrev pub IsBefore : ℕ → ℕ → ℕ → ℕ → Type 0
IsBefore row column r c = (r < row) ⊎ ((r ≡ row) × (c < column))

-- each variable was met so often at the cells before
abbrev pub AreCounted : Tab → ℕ → ℕ → ℕ → List Times → Type 0
AreCounted t m row column times = (k : ℕ) → IsCount (λ r c. IsBefore row column r c × CellHolds t m k r c) (times_of times k)

-- met again are the variables of the head and those of two cells
abbrev pub AreTold : Tab → ℕ → List Times → Type 0
AreTold t m times = (k : ℕ) → (times_of times k ≡ Again) ↔ (Contains t.head (Var k) ⊎ IsTwice (CellHolds t m k))

-- a constant, or a variable that was met again
pub data IsNotedAt (times : List Times) (x : Sym) : Type 0 where
  a_constant : (v : Value) → x ≡ Const v → IsNotedAt times x
  a_variable : (k : ℕ) → x ≡ Var k → times_of times k ≡ Again → IsNotedAt times x
