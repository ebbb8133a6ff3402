-- The task of the kept rows fits the tables, and of a task that fits, the choices that the select takes are the valuations.
use Rattle.su_sql.proofs.Choices.{task_joined}
use Rattle.su_sql.proofs.making.select_for.Goals as goal

pub returns : goal.returns
returns c =
    let task = c.in_ok-task.task in
    record { task = task; is_task = c.in_ok-task.ensures.task; joined = task_joined c.args.db.now.tables task c.in_ok-task.ensures.fits; is = c.in_ok-select.ensures }
