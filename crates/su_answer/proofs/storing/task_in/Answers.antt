-- As the kept rows are least they are a valid tableau by themselves, which has every symbol of the head; so a task of them, each at its essential columns, fits the tables of each database of the schema.
use Rattle.std.proofs.Common.{subst}
use Rattle.su_schema.specs.Entries.{attribute_kinds}
use Rattle.su_tableau.specs.Tableaux.{Tab, IsValid, IsSmall}
use Rattle.su_answer.specs.Joined.{IsTaskOf}
use Rattle.su_answer.proofs.PartTasks.{task_fits}
use Rattle.su_answer.proofs.storing.task_in.Goals as goal
use Rattle.su_answer.proofs.storing.task_in.Goals.{In_ok-task}

task_is : (c : In_ok-task) → IsTaskOf c.args.schema.now c.args.minimal.now.tableau c.args.minimal.now.mask c.in_ok-task.task
task_is c =
    subst (λ (t : Tab). IsTaskOf c.args.schema.now t c.args.minimal.now.mask c.in_ok-task.task) c.tableau-t.ensures
    (subst (λ m. IsTaskOf c.args.schema.now c.tableau-t.result.now m c.in_ok-task.task) c.mask.ensures.is c.in_ok-task.ensures)

pub returns-clause-task : goal.returns-clause-task
returns-clause-task c = task_is c

pub returns-clause-fits : goal.returns-clause-fits
returns-clause-fits c = λ tables kept.
    let valid : IsValid c.args.minimal.now.tableau = subst IsValid c.tableau-t.ensures c.keeps_its_rules-2.ensures.valid in
    let small : IsSmall c.args.minimal.now.tableau = subst IsSmall c.tableau-t.ensures c.keeps_its_rules-2.ensures.small in
    let least = c.kept_rows_are_least.ensures (attribute_kinds c.args.schema.now) c.args.minimal.now.tableau c.args.minimal.now.mask valid c.requires c.keeps_its_rules.ensures.kept in
    task_fits (record { schema = c.args.schema.now; tables = tables }) c.args.minimal.now.tableau c.args.minimal.now.mask c.in_ok-task.task kept small valid least.valid (task_is c)
