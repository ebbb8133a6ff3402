-- The room of a search, as callers see it.
-- room: memory that a search needs, made once; net: its tables, which nobody need open; prepared: `prepare` filled them
-- s, t: a tableau, and the one that it is mapped into; m, k: sets of their rows
use Rattle.std.specs.Prelude.{◌≡◌, ℕ, ◌≤◌, List, length}
use Rattle.su_tableau.specs.Tableaux.{Tab, AreVarsBelow}
use Rattle.su_map.specs.Netted.{Netted}
use Rattle.su_map.specs.inside.Nets.{IsNetFor}

-- for how many rows and symbols there is room, the row list that was found, and the tables
pub record Space : Type 0 where
  pub rows : ℕ
  pub symbols : ℕ
  pub list : List ℕ
  pub net : Netted

-- it has the rows and the symbols of the tableau
pub record IsRoomFor (t : Tab) (room : Space) : Type 0 where
  pub rows : length t.rows ≤ room.rows
  pub symbols : AreVarsBelow room.symbols t

-- it has as much room as the other
pub record HasSizesOf (other room : Space) : Type 0 where
  pub rows : room.rows ≡ other.rows
  pub symbols : room.symbols ≡ other.symbols

-- sealed: the tables were filled, by `prepare`, for the rows of s in m and those of t in k, or for more rows of both
unfoldable pub IsPreparedFor : Tab → ℕ → Tab → ℕ → Space → Type 0
IsPreparedFor s m t k room = IsNetFor s m t k room.net

-- for whichever rows the old room was prepared, the new one is
abbrev pub StaysPrepared : Space → Space → Type 0
StaysPrepared old new = (s : Tab) (m : ℕ) (t : Tab) (k : ℕ) → IsPreparedFor s m t k old → IsPreparedFor s m t k new
