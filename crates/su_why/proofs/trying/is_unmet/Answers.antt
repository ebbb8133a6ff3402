-- The outputs that are found are all there are, and more than one are some.
use Rattle.std.proofs.Common.{List, subst}
use Rattle.std.proofs.lemmas.Bool.{false≢true}
use Rattle.su_rel.specs.Stored.{Stored}
use Rattle.su_rel.specs.MoreThan.{AreMoreThan}
use Rattle.su_exec.specs.Outputs.{IsOutput, AreOutputs}
use Rattle.su_why.proofs.PartTasks.{some_more, tells_empty}
use Rattle.su_why.proofs.trying.is_unmet.Goals as goal

pub returns-in-Ok : goal.returns-in-Ok
returns-in-Ok g c =
    tells_empty c.args.tables.now c.args.task.now c.in-Ok.found c.is_empty.result
    (subst (λ (ts : List Stored). AreOutputs ts c.args.task.now c.in-Ok.found) c.new-rows.ensures.tables c.in-Ok.ensures.outputs)
    c.is_empty.ensures

pub returns-in-Err-More : goal.returns-in-Err-More
returns-in-Err-More g c = (
  λ f. absurd (false≢true f),
  λ none. absurd (some_more c.args.tables.now c.args.task.now (subst (λ (ts : List Stored). AreMoreThan 1 (IsOutput ts c.args.task.now)) c.new-rows.ensures.tables (c.in-Err-More.ensures.more c.in-Err-More.field-0-is)) none),
)
