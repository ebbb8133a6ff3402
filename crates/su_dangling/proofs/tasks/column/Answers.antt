-- The attribute is the object's own, so one of its links gives it a column; that it had none would contradict this.
use Rattle.std.proofs.Common.{◌∙◌, ap, Some}
use Rattle.su_state.proofs.Columns.{column_answered}
use Rattle.su_dangling.proofs.Objects.{column_there}
use Rattle.su_dangling.proofs.tasks.column.Goals as goal

pub unreachable-requires : goal.unreachable-requires
unreachable-requires c = column_there c.args.schema.now c.args.object c.args.a c.requires.object c.requires.own (c.object_column.ensures ∙ ap Some c.in-None.is)

pub returns : goal.returns
returns c = λ entry at. column_answered c.args.schema.now c.args.object c.args.a entry c.object_column.result at c.object_column.ensures ∙ c.in-Some.is
