-- Each edge so far has as many marks as candidates, and each of them tells whether the candidate fits; one list more leaves those before it at their places.
use Rattle.std.proofs.Common.{◌≡◌, ◌↔◌, ◌<◌, ℕ, Bool, IsTrue, List, [], length, subst}
use Rattle.su_base.proofs.Items.{get_or-push_each, length-push}
use Rattle.su_reduce.specs.declared.edges.Edge.{Edge}
use Rattle.su_reduce.specs.Left.{cells_at, candidates_at}
use Rattle.su_reduce.specs.Shapes.{Fits}
use Rattle.su_reduce.specs.inside.Marks.{mark, row_at, candidate_at}
use Rattle.su_reduce.proofs.Candidates.{edge_is}
use Rattle.su_reduce.proofs.fitting.fitting_marks.Goals as goal

pub loop-edge-preserved : goal.loop-edge-preserved
loop-edge-preserved c =
    let edges = c.args.edges.now in
    let n = c.loop-edge.edge-index in
    let inv = c.loop-edge.invariant in
    let new = c.in_ok-fitting_rows.field-0 in
    let is = edge_is edges n c.edge-item.result c.loop-edge-test.true c.edge-item.is in
    rw c.in_ok-push.ensures.ok (record {
      long = length-push c.loop-edge.marks new n inv.long;
      lengths = get_or-push_each (λ (i : ℕ) (ms : List Bool). length ms ≡ length (candidates_at edges i)) [] c.loop-edge.marks new n inv.long inv.lengths
          (subst (λ (e : Edge). length new ≡ length e.candidates) is c.in_ok-fitting_rows.ensures.length);
      each = get_or-push_each (λ (i : ℕ) (ms : List Bool). (p : ℕ) → p < length (candidates_at edges i) → IsTrue (mark ms p) ↔ Fits (cells_at edges i) (candidate_at edges i p)) [] c.loop-edge.marks new n inv.long inv.each
          (subst (λ (e : Edge). (p : ℕ) → p < length e.candidates → IsTrue (mark new p) ↔ Fits e.cells (row_at e.candidates p)) is c.in_ok-fitting_rows.ensures.exact);
    })
