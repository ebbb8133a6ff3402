use Rattle.su_chase.proofs.DistinctCandidates.{AreGiven}
use Rattle.su_chase.proofs.candidates.free_values.Given as goal

abbrev pub invariant-loop-kind : goal.invariant-loop-kind
invariant-loop-kind l = AreGiven l.avoid l.kinds l.values l.next l.kind-index
