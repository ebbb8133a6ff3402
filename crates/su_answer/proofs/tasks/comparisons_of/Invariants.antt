use Rattle.std.proofs.Common.{◌≡◌, map}
use Rattle.std.specs.List.{range_with_len}
use Rattle.su_answer.specs.Joined.{comparison_at}
use Rattle.su_answer.proofs.tasks.comparisons_of.Given as goal

abbrev pub invariant-loop-i : goal.invariant-loop-i
invariant-loop-i l = l.comparisons ≡ map (comparison_at l.t) (range_with_len 0 l.i)
