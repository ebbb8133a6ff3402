-- The parts of a room, by their lengths.
-- net: the tables of a search; notes: what is noted of two tableaux while these are filled
-- No public contract cites this module. The type of rooms keeps to it.
use Rattle.std.specs.Prelude.{ℕ, ◌*◌, ◌≤◌, length}
use Rattle.su_map.specs.declared.notes.Notes.{Notes}
use Rattle.su_map.specs.inside.Netted.{Netted, HasRoom}

-- the notes have the room for n rows, each of at most 128 cells, and for the rows that hold one symbol
pub record AreRoomy (n : ℕ) (notes : Notes) : Type 0 where
  pub alike : 8192 ≤ length notes.alike.items
  pub columns : 128 ≤ length notes.columns.items
  pub domains : n ≤ length notes.domains.items

-- the parts of a room are as large as its tables' rows, and these are enough for as many rows as it has room for
pub record IsSound (net : Netted) (notes : Notes) (room rows domains levels choice count : ℕ) : Type 0 where
  pub small : rows ≤ 64
  pub enough : (n : ℕ) → n ≤ room → n ≤ 64 → n ≤ rows
  pub net_room : HasRoom rows net
  pub notes_room : AreRoomy rows notes
  pub domains_room : rows ≤ domains
  pub levels_room : rows * rows ≤ levels
  pub choice_room : rows ≤ choice
  pub count_in : count ≤ rows
