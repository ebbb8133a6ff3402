-- The greatest counts of rows and symbols so far are enough for the terms so far, so a room of the greatest of all is one for each.
use Rattle.std.proofs.Common.{◌∙◌, length, ap, subst, arith}
use Rattle.su_base.proofs.Numbers.{ord_max-numbers}
use Rattle.su_tableau.specs.Tableaux.{AreVarsBelow}
use Rattle.su_map.proofs.NotedRows.{vars_below}
use Rattle.su_min.proofs.RoomsForAll.{enough_more}
use Rattle.su_min.proofs.searches.room_for.Goals as goal

pub loop-term-preserved : goal.loop-term-preserved
loop-term-preserved c =
    let t = c.tableau-t.result.now in
    let one = c.term-item.result in
    let is = c.tableau-t.ensures in
    let count = c.row_count.ensures.is in
    let rows = c.max-rows.ensures ∙ ord_max-numbers c.loop-term.rows c.row_count.result in
    let symbols = c.max-symbols.ensures ∙ ord_max-numbers c.loop-term.symbols c.symbols.result in
    let long = ap (λ t. length t.rows) is in
    enough_more c.args.terms.now c.loop-term.term-index one c.loop-term.rows c.loop-term.symbols c.max-rows.result c.max-symbols.result c.loop-term-test.true c.term-item.is
    (omega arith) (omega arith) (omega arith) (subst (AreVarsBelow c.max-symbols.result) is (vars_below t c.symbols.result c.max-symbols.result (omega arith) c.symbols.ensures.below))
    c.loop-term.invariant
