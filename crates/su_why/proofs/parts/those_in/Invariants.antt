use Rattle.su_why.specs.inside.Parts.{AreIn}
use Rattle.su_why.proofs.Gathered.{AreGathered}
use Rattle.su_why.proofs.parts.those_in.Given as goal

abbrev pub invariant-loop-i : goal.invariant-loop-i
invariant-loop-i l = AreGathered (λ i c. AreIn l.rows c) l.comparisons l.i l.found
