-- Tableaux.
-- symbol: a constant or a numbered variable; row: a list of symbols; head: the outputs' symbols, then two for each operator
use Rattle.std.specs.Prelude.{◌≡◌, ℕ, ◌+◌, ◌*◌, ◌<◌, ◌≤◌, List, [], length, get_or, All, Contains}
use Rattle.su_where.specs.declared.operators.Op.{Op}
use Rattle.su_tableau.specs.declared.symbols.Sym.{Sym}
use Rattle.su_tableau.specs.declared.symbols.Sym.TheVariants.{Var}

-- a tableau: rows of symbols of one width, and a head: the outputs, and behind them the two sides of each comparison, by these operators
pub record Tab : Type 0 where
  pub width : ℕ
  pub rows : List (List Sym)
  pub head : List Sym
  pub outputs : ℕ
  pub operators : List Op

-- the tableau of these parts
abbrev pub tab_of : ℕ → List (List Sym) → List Sym → ℕ → List Op → Tab
tab_of width rows head outputs operators = record { width = width; rows = rows; head = head; outputs = outputs; operators = operators }

-- the variable stands in one of the rows
abbrev pub Occurs : List (List Sym) → ℕ → Type 0
Occurs rows k = (i : ℕ) × (i < length rows) × Contains (get_or rows i []) (Var k)

-- the rows have the width, the head has the outputs and then two symbols per operator, and each head variable stands in a row
pub record IsValid (t : Tab) : Type 0 where
  pub widths : All (λ row. length row ≡ t.width) t.rows
  pub head_length : length t.head ≡ t.outputs + 2 * length t.operators
  pub head_occurs : (k : ℕ) → Contains t.head (Var k) → Occurs t.rows k

-- at most 64 rows and 128 columns
pub record IsSmall (t : Tab) : Type 0 where
  pub rows : length t.rows ≤ 64
  pub width : t.width ≤ 128

-- the variables of the row are below n
abbrev pub AreBelow : ℕ → List Sym → Type 0
AreBelow n row = (k : ℕ) → Contains row (Var k) → k < n

-- the variables of the tableau are below n
pub record AreVarsBelow (n : ℕ) (t : Tab) : Type 0 where
  pub head : AreBelow n t.head
  pub rows : All (AreBelow n) t.rows

-- n is the greatest variable number plus one, or 0 where there is no variable
pub record IsSymbolCount (n : ℕ) (t : Tab) : Type 0 where
  pub below : AreVarsBelow n t
  pub least : (m : ℕ) → AreVarsBelow m t → n ≤ m
