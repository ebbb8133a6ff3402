use Rattle.std.proofs.Common.{◌<◌, length}
use Rattle.su_exec.proofs.fetching.next_row.Given as goal

abbrev pub invariant-loop-p : goal.invariant-loop-p
invariant-loop-p l = l.best < length l.left
