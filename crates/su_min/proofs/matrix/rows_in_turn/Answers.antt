-- The rows so far are those of their terms, and the first term's row, which knows of no marks, is what the marks of the others rest on.
use Rattle.std.proofs.Common.{◌∙◌, [], ◌∷◌, length, ap, subst, sym, arith}
use Rattle.std.proofs.lemmas.List.{length-append}
use Rattle.su_min.specs.inside.Matrix.{AreKnown}
use Rattle.su_min.proofs.MatrixRows.{rows_more}
use Rattle.su_min.proofs.CoverMatrix.{none_known, first_known}
use Rattle.su_min.proofs.matrix.rows_in_turn.Goals as goal

pub loop-j-preserved : goal.loop-j-preserved
loop-j-preserved g c =
    let inv = c.loop-j.invariant in
    let terms = c.args.terms.now in
    let is = c.in_ok-push.ensures.ok in
    let long = inv.long in
    let len = ap length is ∙ length-append c.loop-j.rows (c.in_ok-row.row ∷ []) in
    let known = subst (AreKnown terms) (sym c.as_slice.ensures) (first_known terms c.in_ok-first.first (c.in_ok-first.ensures.row (none_known terms))) in
    record {
      room = c.in_ok-row.ensures.room;
      long = omega arith;
      rows = rows_more terms c.loop-j.rows c.push.new.self c.loop-j.j c.in_ok-row.row long is (c.in_ok-row.ensures.row known) inv.rows;
    }
