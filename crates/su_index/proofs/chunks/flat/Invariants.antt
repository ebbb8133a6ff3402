use Rattle.std.proofs.Common.{◌≡◌, take}
use Rattle.su_index.specs.Entries.{entries_of}
use Rattle.su_index.proofs.chunks.flat.Given as goal

abbrev pub invariant-loop-chunk : goal.invariant-loop-chunk
invariant-loop-chunk l = l.entries.items ≡ entries_of (take l.chunk-index l.chunks)
