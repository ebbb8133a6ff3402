-- The kept rows make a task that fits the tables and whose rows are countable, so each row has its edge, and there are as few edges as rows.
use Rattle.std.proofs.Common.{List, All, sym, subst, arith}
use Rattle.std.specs.List.{AllZip}
use Rattle.su_base.proofs.Items.{AllZip-length}
use Rattle.su_rel.specs.Stored.{Stored}
use Rattle.su_exec.specs.Tasks.{IsTask}
use Rattle.su_answer.specs.inside.Alone.{AreCountable, IsEdgeOf}
use Rattle.su_answer.proofs.supporting.edges_for.Goals as goal

pub edges_of-requires-clause-task : goal.edges_of-requires-clause-task
edges_of-requires-clause-task c = subst (λ (ts : List Stored). IsTask ts c.in_ok-task.task) (sym c.tables.ensures) c.in_ok-task.ensures.fits

pub edges_of-requires-clause-countable : goal.edges_of-requires-clause-countable
edges_of-requires-clause-countable c = subst (λ (ts : List Stored). All (AreCountable ts) c.in_ok-task.task.rows) (sym c.tables.ensures) c.in_ok-task.ensures.countable

pub returns : goal.returns
returns c =
    let task = c.in_ok-task.task in
    let each : AllZip (IsEdgeOf c.args.db.now.tables) task.rows c.in_ok-edges.edges = subst (λ (ts : List Stored). AllZip (IsEdgeOf ts) task.rows c.in_ok-edges.edges) c.tables.ensures c.in_ok-edges.ensures in
    let few = c.in_ok-task.ensures.fits.few in
    let long = AllZip-length (IsEdgeOf c.args.db.now.tables) task.rows c.in_ok-edges.edges each in
    record { task = task; is_task = c.in_ok-task.ensures.is_task; each = each; few = omega (arith, few, long) }
