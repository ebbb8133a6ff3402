-- Dependencies that hold on the stored rows hold on fewer of them, so the database stays well kept, and only the one table changes.
use Rattle.std.proofs.Common.{◌≡◌, ◌<◌, ◌≤◌, length, Ok, subst, ◌∙◌, arith}
use Rattle.std.proofs.lemmas.List.{get_or-set_same}
use Rattle.su_base.specs.Lists.{AllDiffer}
use Rattle.su_rel.specs.Stored.{Stored}
use Rattle.su_state.specs.DatabaseValue.{DatabaseValue}
use Rattle.su_state.specs.RowChanges.{Deletes}
use Rattle.su_state.proofs.Kept.{with_table, has_table, columns_read, kept_without, deleted}
use Rattle.su_state.proofs.databases.Database.delete.Goals as goal

pub invariant_of-self : goal.invariant_of-self
invariant_of-self c =
    let db : DatabaseValue = record { schema = c.self.inside.schema; tables = c.self.inside.tables.items } in
    let within : c.args.relation < length db.tables = has_table db c.args.self.now c.args.relation c.self.view_is c.self.invariant c.requires in
    let fewer : length c.remove-was_there.new.self.rows ≤ length c.index_mut.result.now.rows = omega (arith, c.remove-was_there.ensures.count) in
    let left : c.index.result.now ≡ c.remove-was_there.new.self = c.index.ensures ∙ get_or-set_same db.tables c.args.relation c.remove-was_there.new.self c.index.result.now within in
    kept_without db c.args.relation c.args.row.now c.index_mut.result.now c.remove-was_there.new.self c.self.invariant within c.index_mut.ensures.value c.remove-was_there.ensures.width c.remove-was_there.ensures.out fewer
    (subst (λ (t : Stored). AllDiffer t.rows) left c.as_slice-rows.ensures.relation.differ)

pub returns : goal.returns
returns c =
    let db : DatabaseValue = record { schema = c.self.inside.schema; tables = c.self.inside.tables.items } in
    let within : c.args.relation < length db.tables = has_table db c.args.self.now c.args.relation c.self.view_is c.self.invariant c.requires in
    subst (λ (d : DatabaseValue). Deletes d c.args.relation c.args.row.now (Ok c.remove-was_there.result) (with_table db c.args.relation c.remove-was_there.new.self)) c.self.view_is
    (deleted db c.args.relation c.args.row.now c.index_mut.result.now c.remove-was_there.new.self c.self.invariant within c.index_mut.ensures.value c.remove-was_there.ensures.width c.remove-was_there.ensures.out c.remove-was_there.result c.remove-was_there.ensures.count
    (rw (columns_read db c.args.relation c.columns.result.now c.columns.ensures.at) c.in_ok-check_row.ensures.ok)
    c.remove-was_there.ensures.there c.remove-was_there.ensures.unchanged)
