-- Essential columns of a row, within a set of the tableau's rows.
-- cell: a row number and a column; essential: the cell holds a constant, a head variable, or a variable of another cell too
use Rattle.std.specs.Prelude.{◌≡◌, ◌≢◌, ℕ, ◌<◌, ◌↔◌, IsTrue, List, length, get_or, Contains}
use Rattle.std.specs.Int.{bit_at}
use Rattle.std.specs.Ordering.{nat_cmp}
use Rattle.std.specs.FinSet.{FinSet, contains, empty}
use Rattle.su_base.specs.declared.values.Value.{Value}
use Rattle.su_tableau.specs.declared.symbols.Sym.{Sym}
use Rattle.su_tableau.specs.declared.symbols.Sym.TheVariants.{Const, Var}
use Rattle.su_tableau.specs.Tableaux.{Tab}
use Rattle.su_tableau.specs.Parts.{Cell, row_of}
use Rattle.su_tableau.specs.Valuations.{value_of, IsHeadUnder}

-- row i is in the set and its column c holds the symbol
pub record HasSymbol (t : Tab) (m i c : ℕ) (x : Sym) : Type 0 where
  pub row_in : i < length t.rows
  pub in_set : bit_at m i ≡ 1
  pub cell : Cell (row_of t i) c x

-- a cell other than (i, c) holds the variable
pub record IsElsewhere (t : Tab) (m i c k : ℕ) : Type 0 where
  pub row : ℕ
  pub column : ℕ
  pub holds : HasSymbol t m row column (Var k)
  pub other : row ≡ i → column ≢ c

-- column c of row i is essential, among the rows of the set
pub data IsEssential (t : Tab) (m i c : ℕ) : Type 0 where
  constant : (v : Value) → HasSymbol t m i c (Const v) → IsEssential t m i c
  in_head : (k : ℕ) → HasSymbol t m i c (Var k) → Contains t.head (Var k) → IsEssential t m i c
  twice : (k : ℕ) → HasSymbol t m i c (Var k) → IsElsewhere t m i c k → IsEssential t m i c

-- for each row of the set its essential columns
abbrev pub AreEssential : Tab → ℕ → List (FinSet nat_cmp) → Type 0
AreEssential t m columns = (i c : ℕ) → i < length t.rows → bit_at m i ≡ 1 → IsTrue (contains (get_or columns i empty) c) ↔ IsEssential t m i c

-- under the valuation row i has the values of u at its essential columns
abbrev pub AgreesOn : Tab → ℕ → (ℕ → Value) → ℕ → List Value → Type 0
AgreesOn t m v i u = (c : ℕ) (x : Sym) → HasSymbol t m i c x → IsEssential t m i c → (d : Value) → get_or u c d ≡ value_of v x

-- each row of the set agrees, at its essential columns and under the valuation, with some row of the universe
abbrev pub AgreeByEssential : Tab → ℕ → List (List Value) → (ℕ → Value) → Type 0
AgreeByEssential t m universe v = (i : ℕ) → i < length t.rows → bit_at m i ≡ 1 → (u : List Value) × Contains universe u × AgreesOn t m v i u

-- h is the values of the head under a valuation for which each row of the set agrees at its essential columns with some row of the universe
abbrev pub ExtByEssential : Tab → ℕ → List (List Value) → List Value → Type 0
ExtByEssential t m universe h = IsHeadUnder (AgreeByEssential t m universe) t h
