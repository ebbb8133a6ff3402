-- What the indexes of a relation hold.
-- position: of a row among the stored ones, from 0; column: of the relation, from 0
-- No public contract cites this module.
use Rattle.std.specs.Prelude.{◌≡◌, ◌<◌, ◌^◌, ℕ, List, length, slice_index_or}
use Rattle.su_base.specs.declared.values.Value.{Value}
use Rattle.su_rel.specs.Stored.{Stored}
use Rattle.su_index.specs.declared.entry.Entry.{Entry}
use Rattle.su_index.specs.declared.index.Index.{Index}
use Rattle.su_index.specs.Entries.{entries_of}
use Rattle.su_index.specs.inside.Chunks.{HaveEntries}
use Rattle.su_index.specs.inside.Entries.{IsIndexWithLeads}
use Rattle.su_index.specs.inside.Order.{value_at}

-- the entries of the index
abbrev pub entries_in : Index → List Entry
entries_in index = entries_of index.chunks.items

-- an index where `at` gives the value at each position
pub record IsIndexAt (at : ℕ → Value) (n : ℕ) (index : Index) : Type 0 where
  pub entries : IsIndexWithLeads at n (entries_in index)
  pub some : HaveEntries index.chunks.items

-- the index of the column, over the rows before the n-th
abbrev pub IsIndexBelow : List (List Value) → ℕ → ℕ → Index → Type 0
IsIndexBelow rows column n index = IsIndexAt (value_at rows column) n index

-- an index for each column, over the rows before the n-th
abbrev pub AreIndexesBelow : List (List Value) → ℕ → List Index → Type 0
AreIndexesBelow rows n indexes = (column : ℕ) (d : Index) → column < length indexes → IsIndexBelow rows column n (slice_index_or indexes column d)

-- a relation with an index for each column
pub record IsIndexed (stored : Stored) (all : List Index) : Type 0 where
  pub count : length all ≡ stored.width
  pub small : length stored.rows < 2 ^ 32
  pub indexes : AreIndexesBelow stored.rows (length stored.rows) all
