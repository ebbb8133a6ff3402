-- Which targets a row has by itself, and which targets of two rows agree, as sets of row numbers.
-- m: the kept rows of the tableau t
-- places: where two lists of symbols hold one symbol
-- No public contract cites this module.
use Rattle.std.specs.Prelude.{◌≡◌, ◌<◌, ◌↔◌, ◌⊎◌, ℕ, List, [], length, get_or, All, Contains}
use Rattle.std.specs.Int.{bit_at}
use Rattle.su_tableau.specs.declared.symbols.Sym.{Sym}
use Rattle.su_tableau.specs.Tableaux.{Tab}
use Rattle.su_map.specs.Lists.{row_of}
use Rattle.su_check.specs.inside.Cells.{cell_at}
use Rattle.su_check.specs.inside.Agreement.{GoAlike, Goes}
use Rattle.su_refute.specs.declared.places.Places.{Places}
use Rattle.su_refute.specs.declared.nets.Net.{Net}

-- the places are in lists of these lengths
abbrev pub AreWithin : ℕ → ℕ → List Places → Type 0
AreWithin n k places = All (λ x. (x.first < n) × (x.second < k)) places

-- the lists hold one symbol at the places
abbrev pub IsShared : List Sym → List Sym → Places → Type 0
IsShared xs ys x = (x.first < length xs) × (x.second < length ys) × (cell_at xs x.first ≡ cell_at ys x.second)

-- all places at which they do
abbrev pub AreShared : List Sym → List Sym → List Places → Type 0
AreShared xs ys places = (x : Places) → Contains places x ↔ IsShared xs ys x

-- the places, and those at which the second list holds the symbol that stands at `first` in the first one
abbrev pub AddsPlaces : List Places → ℕ → Sym → List Sym → List Places → Type 0
AddsPlaces old first x ys new = (p : Places) → Contains new p ↔ (Contains old p ⊎ ((p.first ≡ first) × (p.second < length ys) × (x ≡ cell_at ys p.second)))

-- the lists hold one symbol at each of the places
abbrev pub AgreeInPlaces : List Places → List Sym → List Sym → Type 0
AgreeInPlaces places us vs = All (λ x. cell_at us x.first ≡ cell_at vs x.second) places

-- the members of the set are the rows of m with the property
abbrev pub IsSetOf : Tab → ℕ → (ℕ → Type 0) → ℕ → Type 0
IsSetOf t m P set = (i : ℕ) → (bit_at set i ≡ 1) ↔ ((i < length t.rows) × (bit_at m i ≡ 1) × P i)

-- the targets to which row q goes by itself
abbrev pub IsBase : Tab → ℕ → ℕ → ℕ → Type 0
IsBase t m q = IsSetOf t m (λ i. Goes t.head (row_of t q) (row_of t i))

-- the targets of row q that agree with target j of row s
abbrev pub IsTold : Tab → ℕ → ℕ → ℕ → ℕ → ℕ → Type 0
IsTold t m s j q = IsSetOf t m (λ i. GoAlike (row_of t s) (row_of t j) (row_of t q) (row_of t i))

-- one set for each row
pub record AreTold (t : Tab) (m s j : ℕ) (sets : List ℕ) : Type 0 where
  pub one_each : length sets ≡ length t.rows
  pub told : (q : ℕ) → q < length t.rows → IsTold t m s j q (get_or sets q 0)

-- one such list for each target
pub record AreToldOf (t : Tab) (m s : ℕ) (lists : List (List ℕ)) : Type 0 where
  pub one_each : length lists ≡ length t.rows
  pub told : (j : ℕ) → j < length t.rows → AreTold t m s j (get_or lists j [])

-- the net tells of the rows in m
pub record IsNet (t : Tab) (m : ℕ) (net : Net) : Type 0 where
  pub bases : length net.base ≡ length t.rows
  pub base : (q : ℕ) → q < length t.rows → bit_at m q ≡ 1 → IsBase t m q (get_or net.base q 0)
  pub lists : length net.agree ≡ length t.rows
  pub agree : (s : ℕ) → s < length t.rows → bit_at m s ≡ 1 → AreToldOf t m s (get_or net.agree s [])
