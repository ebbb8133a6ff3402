use Rattle.std.proofs.Common.{◌≡◌, ◌≢◌, ◌<◌, ◌≤◌, ℕ, [], length, get_or}
use Rattle.su_reduce.specs.Chains.{in_bucket, last}
use Rattle.su_reduce.proofs.distinct.is_among.Given as goal

abbrev pub invariant-loop-at : goal.invariant-loop-at
invariant-loop-at l = record {
  low : l.at ≤ length l.rows.rows;
  again : last (in_bucket l.rows.rows l.places (length l.heads) l.h) l.at ≡ l.at;
  none : (b : ℕ) → l.at ≤ b → b < length l.rows.rows → get_or l.rows.rows b [] ≢ l.row;
}

abbrev pub decreases-loop-at : goal.decreases-loop-at
decreases-loop-at l = l.at
