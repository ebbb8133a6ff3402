use Rattle.std.proofs.Common.{◌≡◌, length}
use Rattle.su_exec.proofs.threes.matches.Given as goal

abbrev pub invariant-loop-i : goal.invariant-loop-i
invariant-loop-i l = length l.met.items ≡ l.i
