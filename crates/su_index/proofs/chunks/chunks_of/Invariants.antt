use Rattle.std.proofs.Common.{◌≡◌, ◌<◌, ◌++◌, ℕ, length}
use Rattle.su_index.specs.declared.chunk.Chunk.{Chunk}
use Rattle.su_index.specs.Entries.{entries_of}
use Rattle.su_index.specs.inside.Chunks.{len_at}
use Rattle.su_index.proofs.chunks.chunks_of.Given as goal

abbrev pub invariant-loop-rest : goal.invariant-loop-rest
invariant-loop-rest l = record {
  whole : entries_of l.chunks.items ++ l.rest ≡ l.entries;
  some : (k : ℕ) (d : Chunk) → k < length l.chunks.items → 0 < len_at l.chunks.items k d;
}

abbrev pub decreases-loop-rest : goal.decreases-loop-rest
decreases-loop-rest l = length l.rest
