-- The rows that hold the symbol at the column are among those noted at it; where no other is, the row is the only one, and else each of them is compared.
use Rattle.std.proofs.Common.{◌∙◌, sym, arith}
use Rattle.su_map.proofs.Cells.{read_holds}
use Rattle.su_map.proofs.NotedRows.{only_one}
use Rattle.su_map.proofs.sides.alike_at.Goals as goal

pub returns-then-others-eq0 : goal.returns-then-others-eq0
returns-then-others-eq0 c = only_one c.args.to.now c.rows_with-set.result c.without-others.result c.with.result c.args.p c.args.column c.requires.row c.rows_with-set.ensures c.without-others.ensures.same c.if-others-eq0.true c.with.ensures.same c.with.ensures.member

pub returns : goal.returns
returns c = λ j.
    let to = c.args.to.now in let p = c.args.p in let column = c.args.column in
    let there = read_holds to p column c.row.result.now c.index-row-column.result c.row.ensures.is (omega arith) c.index-row-column.is in
    let f = c.holding.ensures j in (
      λ h. let r = f.0 h in (r.0, λ d. there d ∙ sym (r.2 d)),
      λ h. f.1 (h.0, c.rows_with-set.ensures j h.0 h.1, λ d. sym (h.1 d) ∙ there d),
    )
