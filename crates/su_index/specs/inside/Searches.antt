-- What a search finds among the entries of an index.
-- before a value: as the row at the position would come before a row with the value at another position
-- No public contract cites this module.
use Rattle.std.specs.Prelude.{◌≡◌, ◌<◌, ◌≤◌, ◌+◌, ℕ, true, false, List, length, slice_index}
use Rattle.su_base.specs.declared.values.Value.{Value}
use Rattle.su_index.specs.declared.chunk.Chunk.{Chunk}
use Rattle.su_index.specs.declared.entry.Entry.{Entry}
use Rattle.su_index.specs.declared.place.ChunkPlace.{ChunkPlace}
use Rattle.su_index.specs.Entries.{entries_of, positions}
use Rattle.su_index.specs.inside.Chunks.{before_chunk, rank_in}
use Rattle.su_index.specs.inside.Spans.{comes_before, IsSpan}

-- the first n entries come before the value v at position p
abbrev pub AreBefore : (ℕ → Value) → Value → ℕ → List Entry → ℕ → Type 0
AreBefore at v p run n = (k : ℕ) → k < n → comes_before at v p (slice_index (positions run) k) ≡ true

-- no entry behind the first n does
abbrev pub NoneBefore : (ℕ → Value) → Value → ℕ → List Entry → ℕ → Type 0
NoneBefore at v p run n = (k : ℕ) → n ≤ k → k < length run → comes_before at v p (slice_index (positions run) k) ≡ false

-- no entry from the last one of the chunk on does, unless the chunk is the last one
abbrev pub NoneBeforeAtEnd : (ℕ → Value) → Value → ℕ → List Chunk → ℕ → Type 0
NoneBeforeAtEnd at v p chunks chunk =
    (k : ℕ) → chunk + 1 < length chunks → before_chunk chunks (chunk + 1) ≤ k + 1 → k < length (entries_of chunks)
    → comes_before at v p (slice_index (positions (entries_of chunks)) k) ≡ false

-- the entries whose row has the value stand from the one place up to the other
abbrev pub IsSpanIn : (ℕ → Value) → Value → List Chunk → ChunkPlace → ChunkPlace → Type 0
IsSpanIn at v chunks first past = IsSpan at v (positions (entries_of chunks)) (rank_in chunks first) (rank_in chunks past)
