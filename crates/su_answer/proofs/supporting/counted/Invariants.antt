use Rattle.std.proofs.Common.{◌≡◌, map}
use Rattle.std.specs.List.{range_with_len}
use Rattle.su_answer.specs.inside.Supported.{counted_at}
use Rattle.su_answer.proofs.supporting.counted.Given as goal

abbrev pub invariant-loop-k : goal.invariant-loop-k
invariant-loop-k l = l.counts ≡ map (counted_at l.numbers l.edges l.left) (range_with_len 0 l.k)
