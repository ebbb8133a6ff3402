use Rattle.std.proofs.Common.{◌≡◌, ◌+◌, ℕ, ◌<◌, List, [], length, get_or, Contains}
use Rattle.su_exec.specs.inside.Joins.{Joined, Gives}
use Rattle.su_exec.specs.inside.Plans.{columns_of, passes_of}
use Rattle.su_exec.proofs.joins.join.Given as goal

abbrev pub invariant-loop-i : goal.invariant-loop-i
invariant-loop-i l = record {
  width : l.out.rows.width ≡ length l.plan.left_out.items + length l.plan.right_out.items;
  only : (r : List ℕ) → Contains l.out.rows.rows r → Joined l.left.rows l.right.rows (columns_of l.plan) (passes_of l.codes l.plan) r;
  all : (a : ℕ) (r : List ℕ) → a < l.i → Gives (get_or l.left.rows a []) l.right.rows (columns_of l.plan) (passes_of l.codes l.plan) r → Contains l.out.rows.rows r;
}
