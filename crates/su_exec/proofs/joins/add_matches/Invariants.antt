use Rattle.std.proofs.Common.{◌≡◌, ◌⊎◌, ◌%◌, ℕ, ◌<◌, ◌≤◌, List, [], length, get_or, Contains}
use Rattle.su_reduce.specs.Sheets.{pick}
use Rattle.su_exec.specs.inside.Joins.{Gives}
use Rattle.su_reduce.specs.Chains.{in_bucket, hash_of, last}
use Rattle.su_exec.specs.inside.Plans.{IsMade, columns_of, passes_of}
use Rattle.su_exec.proofs.joins.add_matches.Given as goal

abbrev pub invariant-loop-at : goal.invariant-loop-at
invariant-loop-at l = record {
  width : l.out.rows.width ≡ l.initial.out.rows.width;
  kept : (r : List ℕ) → Contains l.initial.out.rows.rows r → Contains l.out.rows.rows r;
  only : (r : List ℕ) → Contains l.out.rows.rows r → Contains l.initial.out.rows.rows r ⊎ Gives l.row l.right.rows.now.rows (columns_of l.plan) (passes_of l.codes l.plan) r;
  all : (b : ℕ) → l.at ≤ b → b < length l.right.rows.now.rows → (r : List ℕ) → IsMade l.codes l.plan l.row (get_or l.right.rows.now.rows b []) r → Contains l.out.rows.rows r;
  low : l.at ≤ length l.right.rows.now.rows;
  again : last (in_bucket l.right.rows.now.rows l.plan.right_key.items (length l.right.heads.now) (hash_of (pick l.plan.left_key.items l.row) % length l.right.heads.now)) l.at ≡ l.at;
}

abbrev pub decreases-loop-at : goal.decreases-loop-at
decreases-loop-at l = l.at
