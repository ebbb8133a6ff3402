-- A row that isn't there is not taken out, and one that is there is the change.
use Rattle.std.proofs.Common.{false, List, Contains, sym, ◌∙◌, subst}
use Rattle.std.proofs.lemmas.Bool.{true≢false}
use Rattle.su_base.specs.declared.values.Value.{Value}
use Rattle.su_rel.specs.Stored.{Stored}
use Rattle.su_session.specs.RowStatements.{DeletesRow}
use Rattle.su_effects.specs.declared.effects.Effect.TheVariants.{Nothing}
use Rattle.su_effects.specs.inside.Statements.{IsChange}
use Rattle.su_effects.proofs.Replies.{known_makes, absent_makes, delete_makes}
use Rattle.su_effects.proofs.deleting.delete.Goals as goal

pub returns-then-not-has : goal.returns-then-not-has
returns-then-not-has c =
    let db = c.args.db.now in
    let row = c.args.row.now in
    let r = c.in-Some.relation in
    known_makes db c.args.name.now Nothing (λ reply new s. DeletesRow db row reply new s) r (sym c.known.ensures ∙ c.in-Some.is)
    (absent_makes db r row (λ has. true≢false (sym (c.has.ensures.1 (subst (λ (t : Stored). Contains t.rows row) (sym c.table.ensures) has)) ∙ c.if-not-has.true)))

pub returns : goal.returns
returns c =
    let db = c.args.db.now in
    let row = c.args.row.now in
    let r = c.in-Some.relation in
    known_makes db c.args.name.now c.change.result (λ reply new s. DeletesRow db row reply new s) r (sym c.known.ensures ∙ c.in-Some.is)
    (delete_makes db r row c.change.result
    (subst (λ (t : Stored). Contains t.rows row) c.table.ensures (c.has.ensures.0 c.if-not-has.false))
    (subst (λ (rows : List (List Value)). IsChange r rows false c.change.result) c.in_ok-rows.ensures c.change.ensures))
