-- The row is put in, unless the relation's table has it.
use Rattle.std.proofs.Common.{[], ◌∷◌, List, sym, ◌∙◌, subst}
use Rattle.su_base.specs.declared.values.Value.{Value}
use Rattle.su_rel.specs.Stored.{Stored}
use Rattle.su_session.specs.RowStatements.{InsertsRow}
use Rattle.su_effects.specs.inside.Statements.{AreNewOf}
use Rattle.su_effects.proofs.Replies.{known_makes, insert_makes}
use Rattle.su_effects.proofs.inserting.insert.Goals as goal

pub returns : goal.returns
returns c =
    let db = c.args.db.now in
    let row = c.args.row.now in
    let r = c.in-Some.relation in
    let kept = c.in_ok-kept.kept in
    known_makes db c.args.name.now c.change.result (λ reply new s. InsertsRow db row reply new s) r (sym c.known.ensures ∙ c.in-Some.is)
    (insert_makes db r row kept c.change.result
    (subst (λ (t : Stored). AreNewOf t.rows (row ∷ []) kept) c.table.ensures (subst (λ (rows : List (List Value)). AreNewOf c.table.result.now.rows rows kept) c.in_ok-rows.ensures c.in_ok-kept.ensures))
    c.change.ensures)
