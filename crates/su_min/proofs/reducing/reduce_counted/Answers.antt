-- Of the terms so far each is kept or has its cover among the kept ones, as the table of coverings tells; the dropped ones are those that another covers, the earlier of two that cover each other first.
use Rattle.std.proofs.Common.{◌∙◌, ◌+◌, ◌<◌, length, true≢false, sym, subst, arith}
use Rattle.su_min.specs.inside.Matrix.{entry, IsMatrix, IsDroppedIn, AreMarks}
use Rattle.su_min.specs.inside.Rooms.{IsRoomOf}
use Rattle.su_min.proofs.CoverMatrix.{all_minimised, is_preorder, dropped_from, kept_from, least_cover}
use Rattle.su_min.proofs.Spared.{needed}
use Rattle.su_min.proofs.ReducedTerms.{AreReduced, one_kept, one_dropped, all_reduced}
use Rattle.su_min.proofs.reducing.reduce_counted.Goals as goal
use Rattle.su_min.proofs.reducing.reduce_counted.Goals.{then-dropped-i+in_ok-cover_of+in_ok-push, else-dropped-i+in_ok-push-2}

pub first_cover-by-requires-clause-preorder : goal.first_cover-by-requires-clause-preorder
first_cover-by-requires-clause-preorder g c =
    let terms = c.args.terms.now in let matrix = c.as_slice-matrix.result.now in
    is_preorder terms matrix (subst (IsMatrix terms) (sym c.as_slice-matrix.ensures.value) c.in_ok-matrix.ensures.matrix)

pub loop-i-preserved : goal.loop-i-preserved
loop-i-preserved g c =
    let terms = c.args.terms.now in let matrix = c.as_slice-matrix.result.now in
    let m : IsMatrix terms matrix = subst (IsMatrix terms) (sym c.as_slice-matrix.ensures.value) c.in_ok-matrix.ensures.matrix in
    let i = c.loop-i.i in
    let low = c.loop-i-test.true in
    let IsMarked = IsDroppedIn (entry matrix) (length matrix) in
    let marks : AreMarks IsMarked (length matrix) c.as_slice-dropped.result.now = subst (AreMarks IsMarked (length matrix)) (sym c.as_slice-dropped.ensures) c.in_ok-dropped.ensures in
    let in_matrix : i < length matrix = let r = m.rows in omega arith in
    elim c.if-dropped-i.branch [
      | then-dropped-i+in_ok-cover_of+in_ok-push w ↦
          let e = w.in_ok-cover_of.ensures in
          let by = w.first_cover-by.result in
          let r = one_dropped terms i by c.loop-i.kept c.loop-i.covers c.if-dropped-i.covers w.in_ok-cover_of.field-0 (w.covers-is ∙ w.in_ok-push.ensures.ok) e.dropped e.by
          (dropped_from terms matrix m i low ((marks.tells i in_matrix).0 w.if-dropped-i.true)) (least_cover terms matrix m i by low w.first_cover-by.ensures) e.mapping c.loop-i.invariant.reduced in
          record {
            reduced = subst (λ kept. AreReduced terms (i + 1) kept c.if-dropped-i.covers) (sym w.kept-is) r;
            room = subst (IsRoomOf terms) (sym w.room-is) w.in_ok-cover_of.ensures.room;
          }
      | else-dropped-i+in_ok-push-2 w ↦
          let stays : IsMarked i → ⊥ = λ d. true≢false (sym ((marks.tells i in_matrix).1 d) ∙ w.if-dropped-i.false) in
          let r = one_kept terms i c.loop-i.kept c.if-dropped-i.kept c.loop-i.covers (w.kept-is ∙ w.in_ok-push-2.ensures.ok) (kept_from terms matrix m i low stays) c.loop-i.invariant.reduced in
          record {
            reduced = subst (AreReduced terms (i + 1) c.if-dropped-i.kept) (sym w.covers-is) r;
            room = subst (IsRoomOf terms) (sym w.room-is) c.loop-i.invariant.room;
          }
    ]

pub returns-clause-reduced : goal.returns-clause-reduced
returns-clause-reduced g c = all_reduced c.args.terms.now c.loop-i.i c.loop-i.kept c.loop-i.covers (omega arith) c.loop-i.invariant.reduced

pub returns-clause-needed : goal.returns-clause-needed
returns-clause-needed g c = λ kinds k tableaux typed typed_list answers.
    let terms = c.args.terms.now in let matrix = c.as_slice-matrix.result.now in
    let m : IsMatrix terms matrix = subst (IsMatrix terms) (sym c.as_slice-matrix.ensures.value) c.in_ok-matrix.ensures.matrix in
    let r = all_reduced terms c.loop-i.i c.loop-i.kept c.loop-i.covers (omega arith) c.loop-i.invariant.reduced in
    needed terms (all_minimised terms matrix m) _ r kinds typed k tableaux typed_list answers
