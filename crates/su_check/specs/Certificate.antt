-- What a certificate claims, and when a term of it is good.
-- part: the tableau with the kept rows alone
use Rattle.std.specs.Prelude.{◌≡◌, ◌<◌, ◌≤◌, ℕ, List, [], length, get_or, All, Contains, slice_get, Some}
use Rattle.su_base.specs.Lists.{IsAscending}
use Rattle.su_tableau.specs.declared.symbols.Sym.{Sym}
use Rattle.su_tableau.specs.Tableaux.{Tab, IsValid}
use Rattle.su_tableau.specs.Kinds.{Kinds, IsTyped}
use Rattle.su_tableau.specs.Mapping.{images_of}
use Rattle.su_check.specs.declared.certificates.StatedTerm.{StatedTerm}
use Rattle.su_check.specs.declared.certificates.RowTree.{RowTree}
use Rattle.su_check.specs.SentRows.{Lines, numbered_row}
use Rattle.su_check.specs.Refutations.{Refutes}

-- the tableau of a term: its head is outputs, and it has no operators
abbrev pub tableau_of : Kinds → StatedTerm → Tab
tableau_of kinds x = record { width = length kinds; rows = x.rows; head = x.head; outputs = length x.head; operators = [] }

-- the rows, the head and the kept rows of a term
abbrev pub lines_of : StatedTerm → Lines
lines_of x = record { head = x.head; rows = x.rows; kept = x.kept }

-- the term has its place as its number, its tableau is valid and well typed, with 64 rows at most, and its kept rows are ascending numbers of its rows
pub record IsGoodForm (kinds : Kinds) (i : ℕ) (x : StatedTerm) : Type 0 where
  pub place : x.number ≡ i
  pub few : length x.rows ≤ 64
  pub valid : IsValid (tableau_of kinds x)
  pub typed : IsTyped kinds (tableau_of kinds x)
  pub ascending : IsAscending x.kept
  pub within : All (λ k. k < length x.rows) x.kept

-- the list is a containment mapping of all rows into the kept ones
pub record IsFoldInto (t : Lines) (fold : List ℕ) : Type 0 where
  pub symbols : ℕ → Sym
  pub one_each : length fold ≡ length t.rows
  pub head : images_of symbols t.head ≡ t.head
  pub rows : (i : ℕ) → i < length t.rows → images_of symbols (numbered_row t i) ≡ numbered_row t (get_or fold i 0)
  pub into : All (Contains t.kept) fold

-- the fold sends each row to a kept one, each variable to one symbol, and constants and the head's symbols to themselves
abbrev pub IsGoodFold : StatedTerm → Type 0
IsGoodFold x = IsFoldInto (lines_of x) x.fold

-- the k-th tree is that of the k-th kept row, and refutes the empty list
pub record IsGoodTree (x : StatedTerm) (k : ℕ) : Type 0 where
  pub tree : RowTree
  pub there : slice_get x.trees k ≡ Some tree
  pub row : tree.row ≡ get_or x.kept k 0
  pub refutes : Refutes (lines_of x) tree.row tree.node []

-- a term whose parts are all well formed and show what they are to show; no tree is left over
pub record IsGood (kinds : Kinds) (i : ℕ) (x : StatedTerm) : Type 0 where
  pub form : IsGoodForm kinds i x
  pub fold : IsGoodFold x
  pub trees : (k : ℕ) → k < length x.kept → IsGoodTree x k
  pub no_surplus : length x.trees ≤ length x.kept
