use Rattle.std.proofs.Common.{◌≤◌, ◌-◌, length}
use Rattle.su_index.specs.inside.Order.{value_at}
use Rattle.su_index.specs.inside.Searches.{AreBefore, NoneBefore}
use Rattle.su_index.proofs.order.place.Given as goal

abbrev pub invariant-loop-low : goal.invariant-loop-low
invariant-loop-low l = record {
  bound : l.low ≤ l.high;
  top : l.high ≤ length l.run;
  below : AreBefore (value_at l.rows l.column) l.wanted l.position l.run l.low;
  above : NoneBefore (value_at l.rows l.column) l.wanted l.position l.run l.high;
}

abbrev pub decreases-loop-low : goal.decreases-loop-low
decreases-loop-low l = l.high - l.low
