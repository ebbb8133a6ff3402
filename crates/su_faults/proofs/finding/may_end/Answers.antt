-- The end is one of the choices exactly where it is chosen.
use Rattle.std.proofs.Common.{refl}
use Rattle.su_faults.proofs.Sorted.{end_chosen, end_not_chosen}
use Rattle.su_faults.proofs.finding.may_end.Goals as goal

pub returns-in-Some : goal.returns-in-Some
returns-in-Some c = (λ _. end_chosen c.args.choices.now c.in-Some.field-0 c.in-Some.ensures, λ _. refl)

pub returns-in-None : goal.returns-in-None
returns-in-None c = (λ t. absurd (cc), λ h. absurd (end_not_chosen c.args.choices.now c.in-None.ensures h))
