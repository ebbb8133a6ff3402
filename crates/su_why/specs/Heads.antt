-- Where a head can't be a row.
-- outputs: the symbols of the head that are answered; h: a row of values, one beside each output
-- clash: a place that only one of the two has, or at which a constant stands beside another value, or a variable that stands at an earlier place beside another value
use Rattle.std.specs.Prelude.{◌≡◌, ◌≢◌, ◌<◌, ◌≤◌, ◌⊎◌, ℕ, List, slice_get, length, Some}
use Rattle.su_base.specs.declared.values.Value.{Value}
use Rattle.su_tableau.specs.declared.symbols.Sym.{Sym}
use Rattle.su_tableau.specs.declared.symbols.Sym.TheVariants.{Const, Var}

-- only one of the two has place j
abbrev pub IsLonger : List Sym → List Value → ℕ → Type 0
IsLonger outputs h j = ((j < length outputs) × (length h ≤ j)) ⊎ ((j < length h) × (length outputs ≤ j))

-- a constant stands at place j, and not beside itself
pub record IsAnother (outputs : List Sym) (h : List Value) (j : ℕ) : Type 0 where
  pub constant : Value
  pub stands : slice_get outputs j ≡ Some (Const constant)
  pub differ : slice_get h j ≢ Some constant

-- variable k stands at a place before j, beside another value than that of place j
pub record StoodOtherwise (outputs : List Sym) (h : List Value) (j k : ℕ) : Type 0 where
  pub earlier : ℕ
  pub before : earlier < j
  pub stood : slice_get outputs earlier ≡ Some (Var k)
  pub differ : slice_get h earlier ≢ slice_get h j

-- a variable stands at place j and at an earlier one, beside two values
pub record IsTwo (outputs : List Sym) (h : List Value) (j : ℕ) : Type 0 where
  pub variable : ℕ
  pub stands : slice_get outputs j ≡ Some (Var variable)
  pub otherwise : StoodOtherwise outputs h j variable

-- the two clash at place j
abbrev pub IsClash : List Sym → List Value → ℕ → Type 0
IsClash outputs h j = IsLonger outputs h j ⊎ (IsAnother outputs h j ⊎ IsTwo outputs h j)

-- the first place at which they clash
pub record IsFirstClash (outputs : List Sym) (h : List Value) (j : ℕ) : Type 0 where
  pub clash : IsClash outputs h j
  pub first : (i : ℕ) → i < j → ¬ IsClash outputs h i

-- they don't clash
abbrev pub HaveNoClash : List Sym → List Value → Type 0
HaveNoClash outputs h = (j : ℕ) → ¬ IsClash outputs h j
