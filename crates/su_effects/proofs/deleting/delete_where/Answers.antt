-- The condition over numbers is the one that the statement means, and it fits the rows of the relation.
use Rattle.std.proofs.Common.{◌≡◌, ◌≢◌, List, inl, inr, sym, ap, ◌∙◌, subst}
use Rattle.std.proofs.lemmas.Result.{IfOk-weaker}
use Rattle.su_base.specs.declared.values.Value.{Value}
use Rattle.su_rel.specs.Stored.{Stored}
use Rattle.su_schema.specs.SchemaValue.{SchemaValue}
use Rattle.su_where.specs.Truth.{Cond}
use Rattle.su_query.specs.Ranges.{IsOnColumns}
use Rattle.su_query.specs.declared.faults.QueryFault.TheVariants.{NoMemory}
use Rattle.su_state.specs.DatabaseValue.{rows_of}
use Rattle.su_session.specs.RowStatements.{InRelation, DeletesRows}
use Rattle.su_effects.specs.declared.effects.Effect.{Effect}
use Rattle.su_effects.specs.declared.effects.Effect.TheVariants.{Nothing}
use Rattle.su_effects.specs.inside.Statements.{AreMet, MakesWhere}
use Rattle.su_effects.proofs.Fitting.{rows_fit}
use Rattle.su_effects.proofs.Replies.{known_makes, met_makes, unmet_makes}
use Rattle.su_effects.proofs.deleting.delete_where.Goals as goal

pub met-requires : goal.met-requires
met-requires c =
    let rows = c.as_slice.ensures.rows ∙ ap (λ (t : Stored). t.rows) c.table.ensures in
    rw rows (rows_fit c.args.db.now c.args.name.now c.in-Some.relation c.in-Ok.cond c.keeps_its_rules.ensures (sym c.known.ensures ∙ c.in-Some.is)
    (subst (λ (s : SchemaValue). IsOnColumns s c.in-Some.relation c.in-Ok.cond) c.schema.ensures c.in-Ok.ensures.in_range))

pub returns-in_ok-rows-in-Ok : goal.returns-in_ok-rows-in-Ok
returns-in_ok-rows-in-Ok c =
    let db = c.args.db.now in
    let r = c.in-Some.relation in
    let rows = c.in_ok-rows-in-Ok.rows in
    let stored = c.as_slice.ensures.rows ∙ ap (λ (t : Stored). t.rows) c.table.ensures in
    known_makes db c.args.name.now c.change.result (λ reply new s. DeletesRows db c.args.cond.now reply new s) r (sym c.known.ensures ∙ c.in-Some.is)
    (met_makes db r c.args.cond.now rows c.change.result
    (subst (λ (k : Cond). AreMet k (rows_of db r) rows) (rw c.schema.ensures at c.in-Ok.ensures.numbers) (subst (λ (all : List (List Value)). AreMet c.in-Ok.cond all rows) stored c.in_ok-rows-in-Ok.ensures))
    c.change.ensures)

pub returns-in-Err : goal.returns-in-Err
returns-in-Err c =
    let db = c.args.db.now in
    let r = c.in-Some.relation in
    let why = c.in-Err.fault in
    let Makes : Effect → Type 0 = λ effect. MakesWhere effect db (λ reply new. InRelation db c.args.name.now reply new (DeletesRows db c.args.cond.now reply new)) in
    IfOk-weaker c.unmet.result (λ effect. (effect ≡ Nothing) × (why ≢ NoMemory)) Makes
    (λ effect h. subst Makes (sym h.0) (known_makes db c.args.name.now Nothing (λ reply new s. DeletesRows db c.args.cond.now reply new s) r (sym c.known.ensures ∙ c.in-Some.is)
    (unmet_makes db r c.args.cond.now why Nothing (elim (rw c.schema.ensures at c.in-Err.ensures.refused) [ inl memory ↦ absurd (h.1 memory) | inr is ↦ is ]))))
    c.unmet.ensures
