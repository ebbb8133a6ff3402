-- A row's candidates come from relations whose sizes are limited, so that there are never more than 64 bits can count.
use Rattle.std.proofs.Common.{All, arith}
use Rattle.su_base.proofs.Items.{All-members}
use Rattle.su_map.specs.Lists.{row_numbers}
use Rattle.su_answer.specs.Joined.{IsTaskRowOf}
use Rattle.su_answer.specs.inside.Alone.{AreCountable}
use Rattle.su_answer.proofs.Few.{never_more}
use Rattle.su_answer.proofs.PairedLists.{zip_second}
use Rattle.su_answer.proofs.supporting.kept_task.Goals as goal
use Rattle.su_answer.proofs.supporting.kept_task.Goals.{In_ok-task}

countable : (c : In_ok-task) → All (AreCountable c.args.db.now.tables) c.in_ok-task.task.rows
countable c =
    let db = c.args.db.now in
    let m = c.args.minimal.now in
    let rows = c.in_ok-task.task.rows in
    All-members (AreCountable db.tables) rows (λ r has.
    let w = zip_second (IsTaskRowOf db.schema m.tableau m.mask) (row_numbers m.tableau m.mask) rows r c.in_ok-task.ensures.task.rows has in
    never_more db m.tableau m.mask w.0 r c.keeps_its_rules.ensures w.2 18446744073709551615 (omega arith))

pub returns : goal.returns
returns c = record { is_task = c.in_ok-task.ensures.task; fits = c.in_ok-task.ensures.fits; countable = countable c }
