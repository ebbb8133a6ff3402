-- Which places of a list of values a condition reads.
-- place: of a value in the list, from 0
use Rattle.std.specs.Prelude.{ℕ, ◌<◌, All as Each}
use Rattle.su_where.specs.declared.literals.Operand.{Operand}
use Rattle.su_where.specs.declared.literals.Operand.TheVariants.{Place, Const}
use Rattle.su_where.specs.declared.literals.Literal.{Literal}
use Rattle.su_where.specs.Truth.{Cond, comparisons_of}

-- a place below n, or a constant
abbrev pub IsBelow : ℕ → Operand → Type 0
IsBelow n (Place i) = i < n
IsBelow n (Const value) = Unit {0}

-- every place of a comparison is below n
abbrev pub HasPlacesBelow : ℕ → Literal → Type 0
HasPlacesBelow n l = IsBelow n l.left × IsBelow n l.right

-- every place of a condition is below n
abbrev pub Fits : ℕ → Cond → Type 0
Fits n c = Each (HasPlacesBelow n) (comparisons_of c)
