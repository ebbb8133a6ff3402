use Rattle.std.proofs.Common.{length}
use Rattle.su_faults.proofs.Loop.{Led}
use Rattle.su_faults.proofs.finding.first_fault.Given as goal

abbrev pub invariant-loop-rest : goal.invariant-loop-rest
invariant-loop-rest l = Led l.fn.language l.text l.state l.rest

abbrev pub decreases-loop-rest : goal.decreases-loop-rest
decreases-loop-rest l = length l.rest
