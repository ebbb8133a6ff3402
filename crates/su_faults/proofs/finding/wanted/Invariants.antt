use Rattle.std.proofs.Common.{◌≡◌, map, take}
use Rattle.su_faults.proofs.finding.wanted.Given as goal

abbrev pub invariant-loop-choice : goal.invariant-loop-choice
invariant-loop-choice l = l.sorts ≡ map (λ c. c.0) (take l.choice-index l.choices)
