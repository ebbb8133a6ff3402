use Rattle.std.proofs.Common.{◌≡◌, length}
use Rattle.su_exec.proofs.threes.counts.Given as goal

abbrev pub invariant-loop-i : goal.invariant-loop-i
invariant-loop-i l = length l.counts.items ≡ l.buckets
