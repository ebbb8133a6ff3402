use Rattle.std.proofs.Common.{◌≡◌, ◌≤◌, ◌-◌, ℕ, length}
use Rattle.std.specs.List.{insert}
use Rattle.su_index.specs.declared.chunk.Chunk.{Chunk}
use Rattle.su_index.specs.Entries.{entries_of}
use Rattle.su_index.specs.inside.Chunks.{len_at, rank_in, IsGap, HasRoomFrom}
use Rattle.su_index.proofs.chunks.put_at.Given as goal

abbrev pub invariant-loop-chunks : goal.invariant-loop-chunks
invariant-loop-chunks l = record {
  place : IsGap l.chunks.items l.place;
  room : HasRoomFrom l.place.chunk l.chunks.items;
  count : length l.chunks.items ≡ length l.fn.chunks.items;
  entries : insert (entries_of l.chunks.items) (rank_in l.chunks.items l.place) l.entry ≡ insert (entries_of l.fn.chunks.items) (rank_in l.fn.chunks.items l.fn.place) l.fn.entry;
  lens : (k : ℕ) (d : Chunk) → len_at l.fn.chunks.items k d ≤ len_at l.chunks.items k d;
}

abbrev pub decreases-loop-chunks : goal.decreases-loop-chunks
decreases-loop-chunks l = length l.chunks.items - l.place.chunk
