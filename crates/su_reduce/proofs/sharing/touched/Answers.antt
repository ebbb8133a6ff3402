-- The set has exactly the edges below the next in which the symbol stands as a variable, and each edge adds itself or nothing.
use Rattle.std.proofs.Common.{true≢false, sym, ap, ◌∙◌, arith}
use Rattle.su_reduce.specs.declared.edges.Edge.{Edge}
use Rattle.su_tableau.proofs.EssentialCells.{set_more, set_same}
use Rattle.su_reduce.specs.Ears.{cells_of}
use Rattle.su_reduce.specs.inside.Partners.{Touches}
use Rattle.su_reduce.proofs.MeetingSets.{empty_in, cells_read, touches, among}
use Rattle.su_reduce.proofs.sharing.touched.Goals as goal
use Rattle.su_reduce.proofs.sharing.touched.Goals.{then-is_among, else-is_among}

pub loop-j-init : goal.loop-j-init
loop-j-init c = λ i. (λ m. absurd (empty_in c.empty-set.result c.empty-set.ensures i m), λ h. absurd (let l = h.0 in omega (arith, l)))

pub loop-j-preserved : goal.loop-j-preserved
loop-j-preserved c =
    let edges = cells_of c.args.edges.now in
    let x = c.args.x.now in
    let n = c.loop-j.j in
    let at = cells_read c.args.edges.now n c.index-edges-j.result c.as_slice.result.now c.loop-j-test.true c.index-edges-j.is (c.as_slice.ensures ∙ ap (λ (e : Edge). e.cells) (sym c.index-edges-j.is)) in
    elim c.if-is_among.branch [
      | then-is_among w ↦ rw (w.set-is, w.insert-set.ensures) (set_more c.loop-j.set (Touches edges x) n (touches edges n x c.as_slice.result.now at (c.is_among.ensures.0 w.if-is_among.true)) c.loop-j.invariant)
      | else-is_among w ↦ rw w.set-is (set_same c.loop-j.set (Touches edges x) n (λ t. true≢false (sym (c.is_among.ensures.1 (among edges n x c.as_slice.result.now at t)) ∙ w.if-is_among.false)) c.loop-j.invariant)
    ]
