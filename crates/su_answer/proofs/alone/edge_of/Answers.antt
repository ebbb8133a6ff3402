-- One row by itself is a task that fits the tables, and what this task puts out are exactly the row's candidates at its cells.
use Rattle.std.proofs.Common.{List, sym, subst, ◌∙◌}
use Rattle.su_base.specs.declared.values.Value.{Value}
use Rattle.su_rel.specs.Stored.{Stored}
use Rattle.su_exec.specs.declared.tasks.Task.{Task}
use Rattle.su_exec.specs.Outputs.{AreOutputs}
use Rattle.su_exec.specs.Tasks.{IsTask}
use Rattle.su_answer.proofs.Single.{alone_fits, edge_alone}
use Rattle.su_answer.proofs.alone.edge_of.Goals as goal

pub execute-requires : goal.execute-requires
execute-requires g c =
    let T : List Stored = g.R.Rows.tables c.args.rows.now in
    subst (IsTask T) (sym c.in_ok-task.ensures) (alone_fits T c.args.row.now c.requires.sources)

pub returns-in-Ok-clause-edge : goal.returns-in-Ok-clause-edge
returns-in-Ok-clause-edge g c =
    let T : List Stored = g.R.Rows.tables c.args.rows.now in
    let rows : List (List Value) = c.in-Ok.candidates in
    edge_alone T c.args.row.now c.in_ok-cells.cells rows (c.in_ok-cells.ensures ∙ c.as_slice-own.ensures) (subst (λ (t : Task). AreOutputs T t rows) c.in_ok-task.ensures c.in-Ok.ensures.outputs)
