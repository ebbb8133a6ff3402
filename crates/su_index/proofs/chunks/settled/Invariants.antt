use Rattle.std.proofs.Common.{◌≡◌, ◌+◌, ◌-◌, length}
use Rattle.su_index.specs.inside.Chunks.{before_chunk, rank_in}
use Rattle.su_index.proofs.chunks.settled.Given as goal

abbrev pub invariant-loop-at : goal.invariant-loop-at
invariant-loop-at l = before_chunk l.chunks l.chunk + l.at ≡ rank_in l.chunks l.fn.place

abbrev pub decreases-loop-at : goal.decreases-loop-at
decreases-loop-at l = length l.chunks - l.chunk
