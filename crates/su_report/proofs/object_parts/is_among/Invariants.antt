use Rattle.std.proofs.Common.{Contains, take}
use Rattle.su_report.proofs.object_parts.is_among.Given as goal

abbrev pub invariant-loop-other : goal.invariant-loop-other
invariant-loop-other l = ¬ Contains (take l.other-index l.sets) l.fn.set
