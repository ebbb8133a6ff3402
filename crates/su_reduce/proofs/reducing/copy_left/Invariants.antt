use Rattle.std.proofs.Common.{◌≡◌, ℕ, ◌<◌, [], length, get_or}
use Rattle.su_reduce.specs.Left.{marked, candidates_at}
use Rattle.su_reduce.specs.inside.Marks.{marks_at}
use Rattle.su_reduce.proofs.reducing.copy_left.Given as goal

abbrev pub invariant-loop-i : goal.invariant-loop-i
invariant-loop-i l = record {
  long : length l.left ≡ l.i;
  each : (i : ℕ) → i < l.i → get_or l.left i [] ≡ marked (marks_at l.marks i) (candidates_at l.edges i);
}
