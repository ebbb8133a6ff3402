-- The rows of a table differ, as it is a relation, so their copies in order are the relation's rows in order.
use Rattle.std.proofs.Common.{◌≡◌, ◌<◌, length, ap, ◌∙◌}
use Rattle.std.proofs.lemmas.Result.{IfOk-weaker}
use Rattle.su_base.specs.Lists.{AllDiffer}
use Rattle.su_state.specs.DatabaseValue.{DatabaseValue, rows_of}
use Rattle.su_state.specs.Changes.{AreInOrder}
use Rattle.su_state.proofs.Kept.{has_table, table_read}
use Rattle.su_state.proofs.databases.Database.rows.Goals as goal

pub returns : goal.returns
returns c =
    let db : DatabaseValue = record { schema = c.self.inside.schema; tables = c.self.inside.tables.items } in
    let within : c.args.relation < length db.tables = has_table db c.args.self.now c.args.relation c.self.view_is c.self.invariant c.requires in
    let is = table_read db c.args.relation c.index.result.now within c.index.ensures in
    let rows : c.as_slice.result.now ≡ rows_of db c.args.relation = c.as_slice.ensures.rows ∙ ap (λ t. t.rows) is in
    rw (← c.self.view_is)
    (IfOk-weaker c.in_order.result (λ sorted. AllDiffer c.as_slice.result.now → AreInOrder c.as_slice.result.now sorted) (AreInOrder (rows_of db c.args.relation))
    (λ sorted given. rw (← rows) (given (rw c.as_slice.ensures.rows c.as_slice.ensures.relation.differ)))
    c.in_order.ensures)
