-- The copies are the marked ones among the rows so far, and a row more is copied or left out as its mark says.
use Rattle.std.proofs.Common.{[], get_or, sym, ◌∙◌}
use Rattle.std.proofs.lemmas.List.{get_or_default}
use Rattle.su_reduce.proofs.EarSteps.{marked_in, marked_out}
use Rattle.su_reduce.proofs.reducing.copy_marked.Goals as goal
use Rattle.su_reduce.proofs.reducing.copy_marked.Goals.{then-marks-p+in_ok-copy_row+in_ok-push, else-marks-p}

pub loop-p-preserved : goal.loop-p-preserved
loop-p-preserved c =
    let ms = c.args.marks.now in
    let xs = c.args.rows.now in
    let n = c.loop-p.p in
    elim c.if-marks-p.branch [
      | then-marks-p+in_ok-copy_row+in_ok-push w ↦
          let x = w.in_ok-copy_row.field-0 in
          let is = w.in_ok-copy_row.ensures ∙ w.index-rows-p.is ∙ get_or_default xs n w.index-rows-p.result x c.loop-p-test.true in
          rw (w.copies-is, w.in_ok-push.ensures.ok) (marked_in ms xs n c.loop-p.copies c.loop-p-test.true c.requires c.loop-p.invariant x is w.if-marks-p.true)
      | else-marks-p w ↦ rw w.copies-is (marked_out ms xs n c.loop-p.copies c.loop-p-test.true c.requires c.loop-p.invariant (get_or xs n []) (sym (get_or_default xs n (get_or xs n []) [] c.loop-p-test.true)) w.if-marks-p.false)
    ]
