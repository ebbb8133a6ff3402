-- Rows of one width, and pairs of rows that are there.
-- width: how many symbols a row has; t: the head, the rows and the kept rows of a term; sent: a row and the row to which it goes, by number
-- No public contract cites this module.
use Rattle.std.specs.Prelude.{◌≡◌, ◌<◌, ℕ, List, [], get_or, length}
use Rattle.su_tableau.specs.declared.symbols.Sym.{Sym}
use Rattle.su_check.specs.declared.sending.Sent.{Sent}
use Rattle.su_check.specs.SentRows.{Lines}

-- all rows have one width
abbrev pub AreWide : List (List Sym) → Type 0
AreWide rows = (i j : ℕ) → i < length rows → j < length rows → length (get_or rows i []) ≡ length (get_or rows j [])

-- the numbers are those of rows
pub record IsWithin (t : Lines) (x : Sent) : Type 0 where
  pub row : x.row < length t.rows
  pub target : x.target < length t.rows
