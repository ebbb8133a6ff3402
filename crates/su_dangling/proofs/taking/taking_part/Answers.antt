-- The join's task fits the tables of a well kept database, and its outputs are what takes part.
use Rattle.std.proofs.Common.{List, sym, subst}
use Rattle.su_rel.specs.Stored.{Stored}
use Rattle.su_schema.specs.SchemaValue.{SchemaValue}
use Rattle.su_exec.specs.Outputs.{AreOutputs}
use Rattle.su_exec.specs.Tasks.{IsTask}
use Rattle.su_dangling.specs.inside.Tasks.{IsJoinOf}
use Rattle.su_dangling.proofs.Fitting.{join_fits}
use Rattle.su_dangling.proofs.Joining.{taking_are}
use Rattle.su_dangling.proofs.taking.taking_part.Goals as goal

pub outputs_of-requires-clause-task : goal.outputs_of-requires-clause-task
outputs_of-requires-clause-task c =
    let task = c.in_ok-task.task in
    let is : IsJoinOf c.args.db.now.schema c.args.objects c.args.object task = subst (λ (s : SchemaValue). IsJoinOf s c.args.objects c.args.object task) c.schema.ensures c.in_ok-task.ensures in
    subst (λ (tables : List Stored). IsTask tables task) (sym c.tables.ensures) (join_fits c.args.db.now c.keeps_its_rules.ensures c.args.objects c.args.object task c.requires.in_range c.requires.member is)

pub returns : goal.returns
returns c =
    let task = c.in_ok-task.task in
    let is : IsJoinOf c.args.db.now.schema c.args.objects c.args.object task = subst (λ (s : SchemaValue). IsJoinOf s c.args.objects c.args.object task) c.schema.ensures c.in_ok-task.ensures in
    taking_are c.args.db.now c.args.objects c.args.object task is c.in_ok-rows.rows (subst (λ (tables : List Stored). AreOutputs tables task c.in_ok-rows.rows) c.tables.ensures c.in_ok-rows.ensures)
