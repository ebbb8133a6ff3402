-- Places of variables.
-- shared places: a place on either side for each variable of both
-- No public contract cites this module.
use Rattle.std.specs.Prelude.{◌≡◌, ℕ, ◌<◌, List, length, get_or, Contains}
use Rattle.su_base.specs.declared.values.Value.{Value}
use Rattle.su_tableau.specs.declared.symbols.Sym.{Sym}
use Rattle.su_tableau.specs.declared.symbols.Sym.TheVariants.{Var}
use Rattle.su_tableau.specs.Valuations.{nth, value_of}
use Rattle.su_reduce.specs.Shapes.{cell_at, variable_place}

-- each variable has the value at its place
abbrev pub assigned : List Sym → List Value → ℕ → Value
assigned cells row k = nth row (variable_place cells k)

-- the value at place p is what the cell asks for, where variables have the values at their places
abbrev pub FitsAt : List Sym → List Value → ℕ → Type 0
FitsAt cells row p = value_of (assigned cells row) (cell_at cells p) ≡ nth row p

-- the places at i hold one variable
pub record IsPair (left right : List Sym) (ls rs : List ℕ) (i : ℕ) (k : ℕ) : Type 0 where
  pub below : i < length ls
  pub left_is : cell_at left (get_or ls i 0) ≡ Var k
  pub right_is : cell_at right (get_or rs i 0) ≡ Var k

-- shared places, of the variables of the first n cells on the left
pub record AreShared (left right : List Sym) (n : ℕ) (ls rs : List ℕ) : Type 0 where
  pub same_length : length ls ≡ length rs
  pub left_below : (i : ℕ) → i < length ls → get_or ls i 0 < length left
  pub right_below : (i : ℕ) → i < length ls → get_or rs i 0 < length right
  pub only : (i : ℕ) → i < length ls → (k : ℕ) × IsPair left right ls rs i k
  pub all : (p k : ℕ) → p < n → cell_at left p ≡ Var k → Contains right (Var k) → (i : ℕ) × IsPair left right ls rs i k
