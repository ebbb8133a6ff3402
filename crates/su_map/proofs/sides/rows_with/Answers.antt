-- A row that holds the same variable was noted at it, so it is in the set read there; without notes the set of all rows will do.
use Rattle.std.proofs.Common.{◌^◌, ◌∙◌, [], length, ap, arith}
use Rattle.su_map.proofs.Cells.{read_holds}
use Rattle.su_map.proofs.Members.{full_member}
use Rattle.su_map.proofs.NotedRows.{noted_member}
use Rattle.su_map.proofs.sides.rows_with.Goals as goal

pub noted_at-requires : goal.noted_at-requires
noted_at-requires c = record {
  below = λ k e.
      let to = c.args.to.now in let p = c.args.p in let column = c.args.column in
      let there = read_holds to p column c.row.result.now c.index-row-column.result c.row.ensures.is (omega arith) c.index-row-column.is in
      let wide = c.keeps_its_rules.ensures.valid.widths p [] c.requires.row in
      (c.requires.noted c.if-not-are_noted.false).symbols.rows p [] c.requires.row k (column, omega arith, there _ ∙ e);
}

pub returns : goal.returns
returns c = λ j low same.
    let to = c.args.to.now in let p = c.args.p in let column = c.args.column in
    let there = read_holds to p column c.row.result.now c.index-row-column.result c.row.ensures.is (omega arith) c.index-row-column.is in
    let wide = c.keeps_its_rules.ensures.valid.widths j [] low in
    noted_member to c.args.rows_at.now c.full-all.result c.noted_at.result p j column c.index-row-column.result (c.requires.noted c.if-not-are_noted.false) (c.full-all.ensures ∙ ap (λ n. 2 ^ n) c.row_count.ensures.is) c.noted_at.ensures.constant c.noted_at.ensures.var there low (omega arith) same

pub returns-then-not-are_noted : goal.returns-then-not-are_noted
returns-then-not-are_noted c = λ j low same. (full_member c.full-all.result (length c.args.to.now.rows) j (c.full-all.ensures ∙ ap (λ n. 2 ^ n) c.row_count.ensures.is)).1 low
