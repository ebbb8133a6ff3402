use Rattle.std.proofs.Common.{◌<◌, length}
use Rattle.su_exec.proofs.order.choose.Given as goal

abbrev pub invariant-loop-i : goal.invariant-loop-i
invariant-loop-i l = (l.best.0 < l.best.1) × (l.best.1 < length l.edges)

abbrev pub invariant-loop-j : goal.invariant-loop-j
invariant-loop-j l = (l.best.0 < l.best.1) × (l.best.1 < length l.edges)
