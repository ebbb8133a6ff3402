use Rattle.std.proofs.Common.{ℕ, List, ◌++◌}
use Rattle.su_base.proofs.RemainingSets.{remaining}
use Rattle.su_fd.specs.Derivation.{IsDerivation}
use Rattle.su_fd.proofs.derivations.derivation.Given as goal

-- what derives the rest derives the whole after what was used
abbrev pub invariant-loop-i : goal.invariant-loop-i
invariant-loop-i l = (rest : List ℕ) → IsDerivation l.fds l.reached rest → IsDerivation l.fds l.fn.start (l.used ++ rest)

abbrev pub decreases-loop-i : goal.decreases-loop-i
decreases-loop-i l = remaining (λ f. f.right) l.fds l.reached
