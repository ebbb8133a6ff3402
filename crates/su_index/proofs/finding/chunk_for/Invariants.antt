use Rattle.std.proofs.Common.{◌<◌, ◌≤◌, ◌-◌, length}
use Rattle.su_index.specs.Entries.{entries_of}
use Rattle.su_index.specs.inside.Chunks.{before_chunk}
use Rattle.su_index.specs.inside.Order.{value_at}
use Rattle.su_index.specs.inside.Searches.{AreBefore, NoneBeforeAtEnd}
use Rattle.su_index.proofs.finding.chunk_for.Given as goal

abbrev pub invariant-loop-low : goal.invariant-loop-low
invariant-loop-low l = record {
  bound : l.low ≤ l.high;
  top : l.high < length l.chunks;
  below : AreBefore (value_at l.rows l.column) l.wanted l.position (entries_of l.chunks) (before_chunk l.chunks l.low);
  above : NoneBeforeAtEnd (value_at l.rows l.column) l.wanted l.position l.chunks l.high;
}

abbrev pub decreases-loop-low : goal.decreases-loop-low
decreases-loop-low l = l.high - l.low
