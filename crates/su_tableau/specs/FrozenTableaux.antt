-- Freezing: the variables of a tableau are read as new values.
-- size: a number for each value, 0 for a negative number; new value: variable k is read as a value of size n + k, where n is above the size of every constant
use Rattle.std.specs.Prelude.{ℕ, suc, ◌+◌, pos, negsuc, List, [], ◌∷◌, map, length, replicate}
use Rattle.su_base.specs.declared.values.Kind.{Kind}
use Rattle.su_base.specs.declared.values.Kind.TheVariants.{Int as IntKind, Text as TextKind}
use Rattle.su_base.specs.declared.values.Value.{Value}
use Rattle.su_base.specs.declared.values.Value.TheVariants.{Int, Text}
use Rattle.su_tableau.specs.declared.symbols.Sym.{Sym}
use Rattle.su_tableau.specs.declared.symbols.Sym.TheVariants.{Const, Var}
use Rattle.su_tableau.specs.Tableaux.{Tab}
use Rattle.su_tableau.specs.Valuations.{values_of}

-- a number's own size, 0 for a negative one, and a text's length
abbrev pub size : Value → ℕ
size (Int (pos n)) = n
size (Int (negsuc n)) = 0
size (Text bytes) = length bytes

-- the new value of a kind and a size
abbrev pub new_value : Kind → ℕ → Value
new_value IntKind n = Int (pos n)
new_value TextKind n = Text (replicate n 0)

-- the valuation that reads the variables as new values, from size n on
abbrev pub frozen : (ℕ → Kind) → ℕ → ℕ → Value
frozen var_kind n k = new_value (var_kind k) (n + k)

-- the frozen head
abbrev pub frozen_head : (ℕ → Kind) → ℕ → Tab → List Value
frozen_head var_kind n t = values_of (frozen var_kind n) t.head

-- the frozen rows
abbrev pub frozen_rows : (ℕ → Kind) → ℕ → Tab → List (List Value)
frozen_rows var_kind n t = map (values_of (frozen var_kind n)) t.rows

-- a number above the sizes of all constants
abbrev pub top : Sym → ℕ
top (Const c) = suc (size c)
top (Var k) = 0

-- above the size of each constant of a row
abbrev pub row_top : List Sym → ℕ
row_top [] = 0
row_top (x ∷ xs) = top x + row_top xs

-- above the size of each constant of all rows
abbrev pub rows_top : List (List Sym) → ℕ
rows_top [] = 0
rows_top (x ∷ xs) = row_top x + rows_top xs

-- above the size of each constant of a tableau
abbrev pub tab_top : Tab → ℕ
tab_top t = row_top t.head + rows_top t.rows
