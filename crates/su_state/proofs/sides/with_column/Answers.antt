-- A column of the schema is below 32, so a set has room for it, and an attribute has one column in the object or none.
use Rattle.std.proofs.Common.{Some, None, refl}
use Rattle.su_state.proofs.Columns.{column_small, column_answered}
use Rattle.su_state.proofs.sides.with_column.Goals as goal

pub insert-requires : goal.insert-requires
insert-requires c = column_small c.args.schema.now c.args.object c.args.a c.in-Some.c c.keeps_its_rules.ensures c.requires c.in-Some.ensures

pub returns-in-Some : goal.returns-in-Some
returns-in-Some c = λ entry at. rw (column_answered c.args.schema.now c.args.object c.args.a entry (Some c.in-Some.c) at c.in-Some.ensures) c.insert.ensures

pub returns-in-None : goal.returns-in-None
returns-in-None c = λ entry at. rw (column_answered c.args.schema.now c.args.object c.args.a entry None at c.in-None.ensures) refl
