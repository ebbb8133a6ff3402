-- Each mark so far tells whether its candidate fits the edge's cells, and pushing one more leaves those before it at their places.
use Rattle.std.proofs.Common.{◌↔◌, ℕ, Bool, false, IsTrue}
use Rattle.su_base.proofs.Items.{get_or-push_each, length-push}
use Rattle.su_reduce.specs.Shapes.{Fits}
use Rattle.su_reduce.specs.inside.Marks.{row_at}
use Rattle.su_reduce.proofs.Candidates.{told_at}
use Rattle.su_reduce.proofs.fitting.fitting_rows.Goals as goal

pub loop-row-preserved : goal.loop-row-preserved
loop-row-preserved c =
    let edge = c.args.edge.now in
    let n = c.loop-row.row-index in
    let inv = c.loop-row.invariant in
    let m = c.fits_whole.result in
    rw c.in_ok-push.ensures.ok (record {
      long = length-push c.loop-row.marks m n inv.long;
      each = get_or-push_each (λ (p : ℕ) (b : Bool). IsTrue b ↔ Fits edge.cells (row_at edge.candidates p)) false c.loop-row.marks m n inv.long inv.each
          (told_at edge.cells edge.candidates c.as_slice-row-items.result.now n c.row-item.result m c.as_slice-row-items.ensures c.loop-row-test.true c.row-item.is c.fits_whole.ensures);
    })
