use Rattle.std.proofs.Common.{◌≡◌, ◌<◌, ◌≤◌, ◌+◌, ◌-◌, ℕ, true, length, slice_index}
use Rattle.su_index.specs.declared.chunk.Chunk.{Chunk}
use Rattle.su_index.specs.Entries.{entries_of, positions}
use Rattle.su_index.specs.inside.Chunks.{len_at, before_chunk}
use Rattle.su_index.specs.inside.Order.{value_at}
use Rattle.su_index.specs.inside.Spans.{has_at}
use Rattle.su_index.specs.inside.Searches.{AreBefore, NoneBefore}
use Rattle.su_index.proofs.finding.place_in.Given as goal

abbrev pub invariant-loop-low : goal.invariant-loop-low
invariant-loop-low l = record {
  bound : l.low ≤ l.high;
  top : (d : Chunk) → l.high ≤ len_at l.chunks l.chunk d;
  below : AreBefore (value_at l.rows l.column) l.wanted l.position (entries_of l.chunks) (before_chunk l.chunks l.chunk + l.low);
  above : NoneBefore (value_at l.rows l.column) l.wanted l.position (entries_of l.chunks) (before_chunk l.chunks l.chunk + l.high);
  low_has : l.low_has ≡ true → (j : ℕ) × (j < before_chunk l.chunks l.chunk + l.low) × (has_at (value_at l.rows l.column) l.wanted (slice_index (positions (entries_of l.chunks)) j) ≡ true);
  high_has : l.high_has ≡ true → (k : ℕ) × (before_chunk l.chunks l.chunk + l.high ≤ k) × (k < length (entries_of l.chunks)) × (has_at (value_at l.rows l.column) l.wanted (slice_index (positions (entries_of l.chunks)) k) ≡ true);
}

abbrev pub decreases-loop-low : goal.decreases-loop-low
decreases-loop-low l = l.high - l.low
