-- The counts tell how often each variable stands in the masked rows so far; a row outside the mask has no cell to count, and after all rows twice means at two cells.
use Rattle.std.proofs.Common.{◌+◌, sym, ◌∙◌, subst, true≢false, arith}
use Rattle.su_tableau.specs.inside.Occurrences.{AreCounted}
use Rattle.su_tableau.proofs.VariableCounts.{row_skipped, all_counted}
use Rattle.su_tableau.proofs.occurrences.note_rows.Goals as goal
use Rattle.su_tableau.proofs.occurrences.note_rows.Goals.{then-has, else-has}

pub loop-row-preserved : goal.loop-row-preserved
loop-row-preserved c =
    let P = AreCounted c.args.t.now c.args.mask (c.loop-row.row + 1) 0 in
    elim c.if-has.branch [
      | then-has w ↦ subst P (sym w.times-is) w.note_row.ensures
      | else-has w ↦ subst P (sym w.times-is) (row_skipped c.args.t.now c.args.mask c.loop-row.row c.loop-row.times (λ e. true≢false (sym (c.has.ensures.1 e) ∙ w.if-has.false)) c.loop-row.invariant)
    ]

pub returns : goal.returns
returns c = all_counted c.args.t.now c.args.mask c.loop-row.row c.loop-row.times (omega arith) c.loop-row.invariant
