-- Parts of a tableau. A set of row numbers is a number: its bit i is 1 where i is in the set.
-- part: the rows of a set, in order, with the same head
use Rattle.std.specs.Prelude.{◌≡◌, ℕ, zero, suc, ◌<◌, List, [], ◌∷◌, ◌++◌, map, length, get_or}
use Rattle.std.specs.Int.{bit_at}
use Rattle.su_tableau.specs.declared.symbols.Sym.{Sym}
use Rattle.su_tableau.specs.declared.symbols.Sym.TheVariants.{Var}
use Rattle.su_tableau.specs.Tableaux.{Tab}

-- the element in front, where the bit is 1
abbrev pub keep_if : {A : Type 0} → ℕ → A → List A → List A
keep_if zero x xs = xs
keep_if (suc n) x xs = x ∷ xs

-- the members of the set below n, ascending
abbrev pub numbers_of : ℕ → ℕ → List ℕ
numbers_of m zero = []
numbers_of m (suc n) = numbers_of m n ++ keep_if (bit_at m n) n []

-- the rows of the tableau in the set
abbrev pub row_numbers : Tab → ℕ → List ℕ
row_numbers t m = numbers_of m (length t.rows)

-- the symbol of a row in a column
abbrev pub cell_at : List Sym → ℕ → Sym
cell_at row c = get_or row c (Var 0)

-- the cell of a row holds the symbol
pub record Cell (row : List Sym) (column : ℕ) (x : Sym) : Type 0 where
  pub below : column < length row
  pub is : (d : Sym) → get_or row column d ≡ x

-- row i of a tableau
abbrev pub row_of : Tab → ℕ → List Sym
row_of t i = get_or t.rows i []

-- the tableau with only the rows numbered in the set
abbrev pub part : Tab → ℕ → Tab
part t m = record t { rows = map (row_of t) (row_numbers t m) }
