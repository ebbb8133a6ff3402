use Rattle.std.proofs.Common.{◌≡◌, ◌+◌}
use Rattle.su_index.specs.inside.Chunks.{before_chunk}
use Rattle.su_index.proofs.chunks.between.Given as goal

abbrev pub invariant-loop-k : goal.invariant-loop-k
invariant-loop-k l = l.count + before_chunk l.chunks l.fn.first.chunk ≡ l.fn.past.at + before_chunk l.chunks l.k
