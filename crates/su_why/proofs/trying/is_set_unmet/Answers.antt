-- The part that the set asks for fits the tables, and has no output exactly where no valuation meets the set.
use Rattle.su_why.proofs.PartTasks.{part_fits, part_unmet}
use Rattle.su_why.proofs.trying.is_set_unmet.Goals as goal

pub is_unmet-requires-clause-task : goal.is_unmet-requires-clause-task
is_unmet-requires-clause-task c = part_fits c.args.tables.now c.args.task.now c.args.fixed.now c.args.set.now c.in_ok-part.part c.in_ok-part.ensures c.requires.task

pub returns : goal.returns
returns c =
    let unmet = part_unmet c.args.tables.now c.args.task.now c.args.fixed.now c.args.set.now c.in_ok-part.part c.in_ok-part.ensures in
    (λ t. unmet.0 (c.in_ok-unmet.ensures.0 t), λ none. c.in_ok-unmet.ensures.1 (unmet.1 none))
