-- Places among the chunks of an index, and which chunks have room.
-- chunk: entries that follow one another; k: a chunk, by its number from 0; d: what stands in where there is no such chunk
-- place: a chunk, and how many of its entries stand before; room: for how many entries a chunk has memory
-- No public contract cites this module.
use Rattle.std.specs.Prelude.{◌<◌, ◌≤◌, ◌+◌, ◌-◌, ℕ, List, length, take, slice_index_or}
use Rattle.std.specs.List.{insert, remove}
use Rattle.std.specs.VecDeque.{deque_len, deque_capacity}
use Rattle.su_index.specs.declared.chunk.Chunk.{Chunk}
use Rattle.su_index.specs.declared.entry.Entry.{Entry}
use Rattle.su_index.specs.declared.place.ChunkPlace.{ChunkPlace}
use Rattle.su_index.specs.Entries.{entries_of}

-- how many entries the k-th chunk has
abbrev pub len_at : List Chunk → ℕ → Chunk → ℕ
len_at chunks k d = deque_len (slice_index_or chunks k d).entries

-- each chunk but the last has an entry
abbrev pub HaveEntries : List Chunk → Type 0
HaveEntries chunks = (k : ℕ) (d : Chunk) → k + 1 < length chunks → 0 < len_at chunks k d

-- the room of chunk k
abbrev pub capacity_at : List Chunk → ℕ → Chunk → ℕ
capacity_at chunks k d = deque_capacity (slice_index_or chunks k d).entries

-- how many entries stand before the k-th chunk
abbrev pub before_chunk : List Chunk → ℕ → ℕ
before_chunk chunks k = length (entries_of (take k chunks))

-- how many entries stand before the place
abbrev pub rank_in : List Chunk → ChunkPlace → ℕ
rank_in chunks p = before_chunk chunks p.chunk + p.at

-- the entries, with one put in at the place
abbrev pub with_entry : List Chunk → ChunkPlace → Entry → List Entry
with_entry chunks place entry = insert (entries_of chunks) (rank_in chunks place) entry

-- the entries without the one at the place
abbrev pub without_entry : List Chunk → ChunkPlace → List Entry
without_entry chunks place = remove (entries_of chunks) (rank_in chunks place)

-- an entry can be put in at the place
pub record IsGap (chunks : List Chunk) (p : ChunkPlace) : Type 0 where
  pub within : p.chunk < length chunks
  pub most : (d : Chunk) → p.at ≤ len_at chunks p.chunk d

-- the same, where the place past the last entry of a chunk is named as the first of the next one
pub record IsPlace (chunks : List Chunk) (p : ChunkPlace) : Type 0 where
  pub gap : IsGap chunks p
  pub inner : (d : Chunk) → p.chunk + 1 < length chunks → p.at < len_at chunks p.chunk d

-- a chunk from the k-th on can take one more entry without memory
pub record HasRoomFrom (k : ℕ) (chunks : List Chunk) : Type 0 where
  pub at : ℕ
  pub behind : k ≤ at
  pub within : at < length chunks
  pub room : (d : Chunk) → len_at chunks at d < capacity_at chunks at d

-- the last chunk can
abbrev pub HasRoom : List Chunk → Type 0
HasRoom chunks = HasRoomFrom (length chunks - 1) chunks
