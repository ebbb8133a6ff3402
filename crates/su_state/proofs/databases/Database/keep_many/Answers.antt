-- Stored rows and new ones are looked at together, dependency by dependency, and what holds of both is what is to be kept.
use Rattle.std.proofs.Common.{◌≡◌, ◌<◌, ◌++◌, ℕ, List, length, subst, sym, ap, ◌∙◌, All}
use Rattle.std.proofs.lemmas.Bool.{OnTrue_at, OnTrue_from}
use Rattle.std.proofs.lemmas.List.Elements.{All-append}
use Rattle.std.proofs.lemmas.Result.{IfOk-weaker}
use Rattle.su_base.specs.declared.values.Value.{Value}
use Rattle.su_rel.specs.Stored.{HaveWidth}
use Rattle.su_state.specs.DatabaseValue.{DatabaseValue, rows_of, columns_of, HasColumnKinds}
use Rattle.su_state.specs.inside.AdmissibleRows.{KeepThrough}
use Rattle.su_state.proofs.Kept.{has_table, table_read}
use Rattle.su_state.proofs.Filled.{one_width, wide, short, narrow}
use Rattle.su_state.proofs.databases.Database.keep_many.Goals as goal

pub returns : goal.returns
returns c =
    let db : DatabaseValue = record { schema = c.self.inside.schema; tables = c.self.inside.tables.items } in
    let within : c.args.relation < length db.tables = has_table db c.args.self.now c.args.relation c.self.view_is c.self.invariant c.requires.relation in
    let stored : c.as_slice.result.now ≡ rows_of db c.args.relation = c.as_slice.ensures.rows ∙ ap (λ t. t.rows) (table_read db c.args.relation c.index.result.now within c.index.ensures) in
    IfOk-weaker c.keep_all.result _ _
    (λ kept given. OnTrue_from kept _ (λ yes.
    let all : (f o : ℕ) → KeepThrough db.schema c.args.relation (c.as_slice.result.now ++ c.args.rows.now) f o = OnTrue_at yes given in
    subst (λ (d : DatabaseValue). (f o : ℕ) → KeepThrough d.schema c.args.relation (rows_of d c.args.relation ++ c.args.rows.now) f o) c.self.view_is
    (λ f o. subst (λ (rows : List (List Value)). KeepThrough db.schema c.args.relation (rows ++ c.args.rows.now) f o) stored (all f o))))
    c.keep_all.ensures

pub keep_all-requires-clause-stored : goal.keep_all-requires-clause-stored
keep_all-requires-clause-stored c =
    let db : DatabaseValue = record { schema = c.self.inside.schema; tables = c.self.inside.tables.items } in
    let within : c.args.relation < length db.tables = has_table db c.args.self.now c.args.relation c.self.view_is c.self.invariant c.requires.relation in
    let typed : All (HasColumnKinds (columns_of db c.args.relation)) c.args.rows.now = subst (λ (d : DatabaseValue). All (HasColumnKinds (columns_of d c.args.relation)) c.args.rows.now) (sym c.self.view_is) c.requires.typed in
    rw c.as_slice.ensures.rows (short c.index.result.now.rows c.index.result.now.width (narrow db c.args.relation c.index.result.now c.self.invariant within c.index.ensures) c.as_slice.ensures.relation.width)

pub keep_all-requires-clause-more : goal.keep_all-requires-clause-more
keep_all-requires-clause-more c =
    let db : DatabaseValue = record { schema = c.self.inside.schema; tables = c.self.inside.tables.items } in
    let within : c.args.relation < length db.tables = has_table db c.args.self.now c.args.relation c.self.view_is c.self.invariant c.requires.relation in
    let typed : All (HasColumnKinds (columns_of db c.args.relation)) c.args.rows.now = subst (λ (d : DatabaseValue). All (HasColumnKinds (columns_of d c.args.relation)) c.args.rows.now) (sym c.self.view_is) c.requires.typed in
    short c.args.rows.now c.index.result.now.width (narrow db c.args.relation c.index.result.now c.self.invariant within c.index.ensures) (wide db c.args.relation c.args.rows.now c.index.result.now c.self.invariant within c.index.ensures typed)

pub keep_all-requires-clause-width : goal.keep_all-requires-clause-width
keep_all-requires-clause-width c =
    let db : DatabaseValue = record { schema = c.self.inside.schema; tables = c.self.inside.tables.items } in
    let within : c.args.relation < length db.tables = has_table db c.args.self.now c.args.relation c.self.view_is c.self.invariant c.requires.relation in
    let typed : All (HasColumnKinds (columns_of db c.args.relation)) c.args.rows.now = subst (λ (d : DatabaseValue). All (HasColumnKinds (columns_of d c.args.relation)) c.args.rows.now) (sym c.self.view_is) c.requires.typed in
    let width = c.index.result.now.width in
    let stored : HaveWidth width c.as_slice.result.now = rw c.as_slice.ensures.rows c.as_slice.ensures.relation.width in
    let more : HaveWidth width c.args.rows.now = wide db c.args.relation c.args.rows.now c.index.result.now c.self.invariant within c.index.ensures typed in
    one_width (c.as_slice.result.now ++ c.args.rows.now) width (All-append (λ row. length row ≡ width) c.as_slice.result.now c.args.rows.now stored more)
