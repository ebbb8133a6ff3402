-- The rows of the file are put in, but for those that the relation's table has.
use Rattle.std.proofs.Common.{◌≡◌, ◌≢◌, inl, inr, sym, ◌∙◌, subst}
use Rattle.std.proofs.lemmas.Result.{IfOk-weaker}
use Rattle.su_rel.specs.Stored.{Stored}
use Rattle.su_csv.specs.declared.faults.CsvFault.TheVariants.{NoMemory}
use Rattle.su_session.specs.RowStatements.{InRelation, LoadsRows}
use Rattle.su_effects.specs.declared.effects.Effect.{Effect}
use Rattle.su_effects.specs.declared.effects.Effect.TheVariants.{Nothing}
use Rattle.su_effects.specs.inside.Statements.{AreNewOf, MakesWhere}
use Rattle.su_effects.proofs.Replies.{known_makes, load_makes, unread_makes}
use Rattle.su_effects.proofs.loading.load.Goals as goal

pub returns-in_ok-kept-in-Ok : goal.returns-in_ok-kept-in-Ok
returns-in_ok-kept-in-Ok c =
    let db = c.args.db.now in
    let file = c.args.file.now in
    let r = c.in-Some.relation in
    let kept = c.in_ok-kept-in-Ok.kept in
    known_makes db c.args.name.now c.change.result (λ reply new s. LoadsRows db file reply new s) r (sym c.known.ensures ∙ c.in-Some.is)
    (load_makes db r file c.in-Ok.rows kept c.change.result
    (rw c.columns.ensures.columns at c.in-Ok.ensures.rows)
    (subst (λ (t : Stored). AreNewOf t.rows c.in-Ok.rows kept) c.table.ensures c.in_ok-kept-in-Ok.ensures)
    c.change.ensures)

pub returns-in-Err : goal.returns-in-Err
returns-in-Err c =
    let db = c.args.db.now in
    let file = c.args.file.now in
    let r = c.in-Some.relation in
    let why = c.in-Err.fault in
    let Makes : Effect → Type 0 = λ effect. MakesWhere effect db (λ reply new. InRelation db c.args.name.now reply new (LoadsRows db file reply new)) in
    IfOk-weaker c.unread.result (λ effect. (effect ≡ Nothing) × (why ≢ NoMemory)) Makes
    (λ effect h. subst Makes (sym h.0) (known_makes db c.args.name.now Nothing (λ reply new s. LoadsRows db file reply new s) r (sym c.known.ensures ∙ c.in-Some.is)
    (unread_makes db r file why Nothing (elim (rw c.columns.ensures.columns at c.in-Err.ensures.fault) [ inl memory ↦ absurd (h.1 memory) | inr is ↦ is ]))))
    c.unread.ensures
