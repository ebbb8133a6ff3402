use Rattle.std.proofs.Common.{◌<◌, ◌≤◌, ◌-◌, ℕ, length, get_or}
use Rattle.su_check.proofs.boards.place_of_variable.Given as goal

abbrev pub invariant-loop-low : goal.invariant-loop-low
invariant-loop-low l = record {
  ordered : l.low ≤ l.high;
  within : l.high ≤ length l.variables;
  below : (m : ℕ) → m < l.low → get_or l.variables m 0 < l.k;
  from : (m : ℕ) → l.high ≤ m → m < length l.variables → l.k ≤ get_or l.variables m 0;
}

abbrev pub decreases-loop-low : goal.decreases-loop-low
decreases-loop-low l = l.high - l.low
