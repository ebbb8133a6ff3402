-- The indexes of a relation while rows come and go.
-- index: of a column, an entry for each row, in order; column: of the relation, from 0; d: what stands in where there is no such index
-- position: of a row among the stored ones, from 0; p: the position of a row that goes; kept: whether the row at each position stays
-- run: positions from one on, each once and in order
-- No public contract cites this module.
use Rattle.std.specs.Prelude.{◌≡◌, ◌<◌, ◌-◌, ℕ, List, length, slice_index_or, All, Bool}
use Rattle.su_base.specs.declared.values.Value.{Value}
use Rattle.su_index.specs.declared.index.Index.{Index}
use Rattle.su_index.specs.inside.Chunks.{HaveEntries, HasRoom}
use Rattle.su_index.specs.Entries.{positions}
use Rattle.su_index.specs.inside.Entries.{kept_entries, IsRunWithLeads}
use Rattle.su_index.specs.inside.Spans.{ArePositions, with_value}
use Rattle.su_index.specs.inside.Order.{value_at}
use Rattle.su_index.specs.inside.Indexed.{entries_in, IsIndexAt, IsIndexBelow}

-- the index of the column, over all rows
abbrev pub IsIndexOf : List (List Value) → ℕ → Index → Type 0
IsIndexOf rows column index = IsIndexBelow rows column (length rows) index

-- the same once the last row has come to position p, in place of the one there
abbrev pub IsIndexWithout : List (List Value) → ℕ → ℕ → Index → Type 0
IsIndexWithout rows column p index = IsIndexAt (with_value (value_at rows column) p (value_at rows column (length rows - 1))) (length rows - 1) index

-- such an index for each column
abbrev pub AreIndexesWithout : List (List Value) → ℕ → List Index → Type 0
AreIndexesWithout rows p indexes = (column : ℕ) (d : Index) → column < length indexes → IsIndexWithout rows column p (slice_index_or indexes column d)

-- the entries of each index are a run of its column, from the first row on
abbrev pub AreRuns : List (List Value) → List Index → Type 0
AreRuns rows indexes =
    (column : ℕ) (d : Index) → column < length indexes
    → IsRunWithLeads (value_at rows column) 0 (entries_in (slice_index_or indexes column d))

-- each index can take one more position without memory
abbrev pub HaveRoom : List Index → Type 0
HaveRoom indexes = All (λ index. HasRoom index.chunks.items) indexes

-- each index has the entries of the kept rows alone
abbrev pub AreKept : List Bool → List Index → List Index → Type 0
AreKept kept old new =
    (column : ℕ) (d : Index) → column < length new
    → (entries_in (slice_index_or new column d) ≡ kept_entries kept (entries_in (slice_index_or old column d)))
    × HaveEntries (slice_index_or new column d).chunks.items

-- the positions of each index are below n
abbrev pub HavePositions : ℕ → List Index → Type 0
HavePositions n indexes = All (λ index. ArePositions n (positions (entries_in index))) indexes
