-- The task's outputs are the term's answers, so what tells that the row is no output tells that it is no answer.
use Rattle.std.proofs.Common.{subst}
use Rattle.su_tableau.specs.Tableaux.{IsValid}
use Rattle.su_why.proofs.Pins.{why_not_is}
use Rattle.su_why.proofs.refusals.refusal.Goals as goal

pub returns : goal.returns
returns c =
    why_not_is c.args.db.now c.args.minimal.now c.in_ok-task.task c.keeps_its_rules.ensures (subst IsValid c.tableau.ensures c.keeps_its_rules-2.ensures.valid) c.in_ok-task.ensures.fits c.in_ok-task.ensures.task c.args.row.now c.in_ok-why.why c.in_ok-why.ensures
