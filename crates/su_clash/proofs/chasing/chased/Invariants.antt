use Rattle.std.proofs.Common.{filter, length, not}
use Rattle.su_clash.specs.Derivations.{IsDerivation}
use Rattle.su_clash.specs.inside.Renames.{AreRenamesOf, is_kept}
use Rattle.su_clash.proofs.Open.{all_steps}
use Rattle.su_clash.proofs.chasing.chased.Given as goal

abbrev pub invariant-loop-step : goal.invariant-loop-step
invariant-loop-step l = record { derivation : IsDerivation l.fds l.rows l.steps; are : AreRenamesOf l.fds l.rows l.steps l.renames }

abbrev pub decreases-loop-step : goal.decreases-loop-step
decreases-loop-step l = length (filter (λ s. not (is_kept l.fds l.rows l.renames s)) (all_steps (length l.fds) (length l.rows)))
