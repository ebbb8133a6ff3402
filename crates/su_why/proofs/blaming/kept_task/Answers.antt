-- A term has at most 64 rows, and two symbols of its head for each comparison.
use Rattle.std.proofs.Common.{◌≡◌, length, subst, ap, ◌∙◌, arith}
use Rattle.su_tableau.specs.Tableaux.{Tab, IsValid}
use Rattle.su_why.proofs.Small.{task_small}
use Rattle.su_why.proofs.blaming.kept_task.Goals as goal

pub returns-clause-small : goal.returns-clause-small
returns-clause-small c =
    let t : Tab = c.args.minimal.now.tableau in
    let long : length c.head-count.result.now ≡ length t.head = ap length c.head-count.ensures ∙ ap (λ (u : Tab). length u.head) c.tableau-t.ensures in
    task_small c.args.db.now.schema t c.args.minimal.now.mask c.in_ok-task.task c.in_ok-task.ensures.task (subst IsValid c.tableau-t.ensures c.keeps_its_rules.ensures.valid) (omega (arith, long, c.head-count.type_inv)) c.in_ok-task.ensures.fits.few
