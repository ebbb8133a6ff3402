-- The stored rows keep the dependencies already; so it is enough that no new row breaks one with a stored row, and that the new rows keep them among themselves.
use Rattle.std.proofs.Common.{◌≡◌, ◌<◌, ◌++◌, ℕ, length, subst, sym, All}
use Rattle.std.proofs.lemmas.Bool.{OnTrue_at, OnTrue_from}
use Rattle.std.proofs.lemmas.Result.{IfOk-weaker}
use Rattle.su_rel.specs.Stored.{Stored}
use Rattle.su_state.specs.DatabaseValue.{DatabaseValue, table_of, rows_of, columns_of, HasColumnKinds}
use Rattle.su_state.specs.Enforced.{HoldsOn}
use Rattle.su_state.specs.inside.SomeBreaches.{BreaksNothing}
use Rattle.su_state.specs.inside.AdmissibleRows.{KeepThrough}
use Rattle.su_state.proofs.Kept.{has_table, table_read, holds_at}
use Rattle.su_state.proofs.Filled.{keeps_few, wide, short, narrow}
use Rattle.su_state.proofs.databases.Database.keep_few.Goals as goal

pub returns : goal.returns
returns c =
    let db : DatabaseValue = record { schema = c.self.inside.schema; tables = c.self.inside.tables.items } in
    let within : c.args.relation < length db.tables = has_table db c.args.self.now c.args.relation c.self.view_is c.self.invariant c.requires.relation in
    let table : c.index-table.result.now ≡ table_of db c.args.relation = table_read db c.args.relation c.index-table.result.now within c.index-table.ensures in
    let none : All (BreaksNothing db.schema c.args.relation (rows_of db c.args.relation)) c.args.rows.now =
    subst (λ (t : Stored). All (BreaksNothing db.schema c.args.relation t.rows) c.args.rows.now) table (OnTrue_at c.if-not-none_breaks.false c.none_breaks.ensures) in
    IfOk-weaker c.keep_all.result _ _
    (λ kept given. OnTrue_from kept _ (λ yes.
    let all : (f o : ℕ) → KeepThrough db.schema c.args.relation c.args.rows.now f o = OnTrue_at yes given in
    subst (λ (d : DatabaseValue). (f o : ℕ) → KeepThrough d.schema c.args.relation (rows_of d c.args.relation ++ c.args.rows.now) f o) c.self.view_is
    (keeps_few db c.args.relation c.args.rows.now c.self.invariant within none all)))
    c.keep_all.ensures

pub none_breaks-requires-clause-rows : goal.none_breaks-requires-clause-rows
none_breaks-requires-clause-rows c =
    let db : DatabaseValue = record { schema = c.self.inside.schema; tables = c.self.inside.tables.items } in
    let within : c.args.relation < length db.tables = has_table db c.args.self.now c.args.relation c.self.view_is c.self.invariant c.requires.relation in
    let typed : All (HasColumnKinds (columns_of db c.args.relation)) c.args.rows.now = subst (λ (d : DatabaseValue). All (HasColumnKinds (columns_of d c.args.relation)) c.args.rows.now) (sym c.self.view_is) c.requires.typed in
    wide db c.args.relation c.args.rows.now c.index-table.result.now c.self.invariant within c.index-table.ensures typed

pub none_breaks-requires-clause-keeps : goal.none_breaks-requires-clause-keeps
none_breaks-requires-clause-keeps c =
    let db : DatabaseValue = record { schema = c.self.inside.schema; tables = c.self.inside.tables.items } in
    let within : c.args.relation < length db.tables = has_table db c.args.self.now c.args.relation c.self.view_is c.self.invariant c.requires.relation in
    let table : c.index-table.result.now ≡ table_of db c.args.relation = table_read db c.args.relation c.index-table.result.now within c.index-table.ensures in
    λ f o fd object numbered placed on.
    subst (λ (t : Stored). HoldsOn fd object t.rows) (sym table) (holds_at db c.args.relation c.self.invariant within f o fd object numbered placed on)

pub keep_all-requires-clause-more : goal.keep_all-requires-clause-more
keep_all-requires-clause-more c =
    let db : DatabaseValue = record { schema = c.self.inside.schema; tables = c.self.inside.tables.items } in
    let within : c.args.relation < length db.tables = has_table db c.args.self.now c.args.relation c.self.view_is c.self.invariant c.requires.relation in
    let typed : All (HasColumnKinds (columns_of db c.args.relation)) c.args.rows.now = subst (λ (d : DatabaseValue). All (HasColumnKinds (columns_of d c.args.relation)) c.args.rows.now) (sym c.self.view_is) c.requires.typed in
    short c.args.rows.now c.index-table.result.now.width (narrow db c.args.relation c.index-table.result.now c.self.invariant within c.index-table.ensures) (wide db c.args.relation c.args.rows.now c.index-table.result.now c.self.invariant within c.index-table.ensures typed)
