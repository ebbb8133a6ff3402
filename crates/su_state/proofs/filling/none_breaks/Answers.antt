-- None of the rows so far breaks a dependency with a stored row, and one for which a breach is found ends the test.
use Rattle.std.proofs.Common.{◌∙◌, subst, sym, arith}
use Rattle.std.proofs.lemmas.List.Elements.{All-more, All-same}
use Rattle.std.proofs.lemmas.List.{take_all}
use Rattle.su_state.specs.inside.SomeBreaches.{BreaksNothing}
use Rattle.su_state.proofs.Filled.{none_found}
use Rattle.su_state.proofs.filling.none_breaks.Goals as goal

pub loop-row-preserved : goal.loop-row-preserved
loop-row-preserved c =
    let none = BreaksNothing c.args.schema.now c.args.relation c.args.table.now.rows in
    All-more none c.args.rows.now c.loop-row.row-index c.row-item.result c.loop-row-test.true c.loop-row.invariant
    (subst none c.row-item.is (none_found c.first_breach.result (none c.row-item.result) _ (sym c.is_some.ensures ∙ c.if-is_some.false) c.first_breach.ensures))

pub returns : goal.returns
returns c = All-same (BreaksNothing c.args.schema.now c.args.relation c.args.table.now.rows) c.args.rows.now _ (sym (take_all c.loop-row.row-index c.args.rows.now (omega arith))) c.loop-row.invariant
