use Rattle.std.proofs.Common.{Contains, take}
use Rattle.std.specs.Ordering.{nat_cmp}
use Rattle.std.specs.FinSet.{FinSet}
use Rattle.su_report.proofs.object_parts.are_among.Given as goal

abbrev pub invariant-loop-set : goal.invariant-loop-set
invariant-loop-set l = (x : FinSet nat_cmp) → Contains (take l.set-index l.sets) x → Contains l.others x
