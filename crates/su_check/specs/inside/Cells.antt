-- Cells of rows, their variables and their kinds.
-- k: a variable, by its number; c: a column, from 0; n: a place in `variables`, from 0; f: a kind for each variable
-- variables: those of the rows, ascending, each as often as it stands there; found: the kind found for each, at its first place, or none
-- kinds: one for each column
-- No public contract cites this module.
use Rattle.std.specs.Prelude.{◌≡◌, ◌<◌, ℕ, Bool, true, false, Option, None, Some, List, [], length, map, get_or, All}
use Rattle.su_base.specs.declared.values.Kind.{Kind}
use Rattle.su_base.specs.declared.values.Kind.TheVariants.{Int as IntKind}
use Rattle.su_base.specs.Value.{kind_of}
use Rattle.su_tableau.specs.declared.symbols.Sym.{Sym}
use Rattle.su_tableau.specs.declared.symbols.Sym.TheVariants.{Const, Var}
use Rattle.su_tableau.specs.Kinds.{sym_kind}
pub use Rattle.su_tableau.specs.Parts.{cell_at}

-- the symbol is a constant
abbrev pub is_const : Sym → Bool
is_const (Const v) = true
is_const (Var k) = false

-- the variable stands at n for the first time
pub record IsFirstPlace (variables : List ℕ) (k n : ℕ) : Type 0 where
  pub below : n < length variables
  pub is : get_or variables n 0 ≡ k
  pub before : (m : ℕ) → m < n → get_or variables m 0 < k

-- ---- kinds

-- the kind of a column; a missing one counts as a number
abbrev pub kind_at : List Kind → ℕ → Kind
kind_at kinds c = get_or kinds c IntKind

-- the kind found for the symbol, at the place of its variable
abbrev pub HasFound : List ℕ → List (Option Kind) → Sym → Kind → Type 0
HasFound variables found (Const v) kind = kind_of v ≡ kind
HasFound variables found (Var k) kind = (n : ℕ) × IsFirstPlace variables k n × (get_or found n None ≡ Some kind)

-- the kinds are found for the symbols of the row
abbrev pub HaveFound : List ℕ → List (Option Kind) → List Kind → List Sym → Type 0
HaveFound variables found kinds row = (c : ℕ) → c < length row → HasFound variables found (cell_at row c) (kind_at kinds c)

-- so they are for each of the rows
abbrev pub AllHaveFound : List ℕ → List (Option Kind) → List Kind → List (List Sym) → Type 0
AllHaveFound variables found kinds rows = (i c : ℕ) → i < length rows → c < length (get_or rows i []) → HasFound variables found (cell_at (get_or rows i []) c) (kind_at kinds c)

-- the kinds found are those that f gives
abbrev pub AreFound : (ℕ → Kind) → List ℕ → List (Option Kind) → Type 0
AreFound f variables found = (n : ℕ) (kind : Kind) → get_or found n None ≡ Some kind → f (get_or variables n 0) ≡ kind

-- some kinds of variables give each row the kinds
abbrev pub AreTyped : List Kind → List (List Sym) → Type 0
AreTyped kinds rows = (f : ℕ → Kind) × All (λ row. map (sym_kind f) row ≡ kinds) rows
