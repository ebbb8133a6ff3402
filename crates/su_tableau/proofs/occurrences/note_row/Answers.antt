-- The counts so far tell how often each variable stands in the cells before this one, and the next cell adds one for its own variable and none for the others.
use Rattle.std.proofs.Common.{[], subst, Contains, arith}
use Rattle.su_tableau.specs.declared.symbols.Sym.TheVariants.{Var}
use Rattle.su_tableau.proofs.Rows.{contains_read}
use Rattle.su_tableau.proofs.VariableCounts.{cell_counted, cell_read, row_counted}
use Rattle.su_tableau.proofs.occurrences.note_row.Goals as goal

pub note-requires : goal.note-requires
note-requires c = record {
  below = λ k e.
      let has = contains_read c.row-cell-items.result.now c.loop-cell.cell-index c.cell-item.result (Var k) c.loop-cell-test.true c.cell-item.is e in
      let l = c.requires.below.rows c.args.row [] c.requires.row k (subst (λ r. Contains r (Var k)) c.row-cell-items.ensures.is has) in
      omega arith;
}

pub loop-cell-preserved : goal.loop-cell-preserved
loop-cell-preserved c =
    cell_counted c.args.t.now c.args.mask c.args.row c.loop-cell.cell-index c.loop-cell.times c.note.new.times c.cell-item.result
    (cell_read c.args.t.now c.args.mask c.args.row c.loop-cell.cell-index c.row-cell-items.result.now c.cell-item.result c.requires.row c.requires.in_mask c.row-cell-items.ensures.is c.loop-cell-test.true c.cell-item.is)
    c.note.ensures.met c.note.ensures.others c.loop-cell.invariant

pub returns : goal.returns
returns c = row_counted c.args.t.now c.args.mask c.args.row c.loop-cell.cell-index c.loop-cell.times (let w = c.keeps_its_rules.ensures.valid.widths c.args.row [] c.requires.row in let v = c.row-cell-items.ensures.width in omega arith) c.loop-cell.invariant
