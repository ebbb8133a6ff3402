-- A first one is marked exactly where one of the rows so far with its left part differs from it on the right side.
use Rattle.std.proofs.Common.{◌≡◌, ◌<◌, ℕ, false, List, [], length, refl, ap, subst, ◌∙◌, inl, inr, arith}
use Rattle.std.proofs.lemmas.Bool.{cases_lt, false≢true}
use Rattle.std.proofs.lemmas.List.{get_or_read, get_or-replicate, get_or_past, length-replicate}
use Rattle.std.proofs.Math.ListN.{replicate}
use Rattle.su_base.specs.declared.values.Value.{Value}
use Rattle.su_state.specs.inside.Sides.{AgreeAt, row_at}
use Rattle.su_state.specs.inside.Pairs.{AreMarks, first_at, mark_at}
use Rattle.su_state.proofs.Paired.{none_marked, still_marks, one_marked}
use Rattle.su_state.proofs.pairs.marks_of.Goals as goal
use Rattle.su_state.proofs.pairs.marks_of.Goals.{then-not-agree, else-not-agree}

pub loop-position-init : goal.loop-position-init
loop-position-init c =
    let rows = c.args.rows.now in
    let items : c.in_ok-marks.marks.items ≡ replicate (length rows) false = c.in_ok-marks.ensures.items_if_clones_equal (λ y same. same) in
    let none : (k : ℕ) → mark_at c.in_ok-marks.marks.items k ≡ false =
    λ k. rw items (elim (cases_lt k (length rows)) [
      | inl within ↦ get_or-replicate (length rows) k false false within
      | inr past ↦ get_or_past (replicate (length rows) false) k false (omega (arith, past, length-replicate (length rows) false))
    ]) in
    none_marked c.args.sides.now.right rows c.args.firsts.now 0 c.in_ok-marks.marks.items (ap length items ∙ length-replicate (length rows) false) none

pub loop-position-preserved : goal.loop-position-preserved
loop-position-preserved c =
    let rows : List (List Value) = c.args.rows.now in
    let firsts : List ℕ = c.args.firsts.now in
    let n = c.loop-position.position in
    let first : ℕ = first_at firsts n in
    let within : first < length rows = c.requires.firsts.within n c.loop-position-test.true in
    let is : c.index-rows-position.result ≡ row_at rows n = get_or_read rows n c.index-rows-position.result c.loop-position-test.true c.index-rows-position.is [] in
    let other : c.index-rows-first.result ≡ row_at rows first = get_or_read rows first c.index-rows-first.result within c.index-rows-first.is [] in
    elim c.if-not-agree.branch [
      | then-not-agree w ↦
          let out : ¬ AgreeAt c.args.sides.now.right (row_at rows n) (row_at rows first) = rw (← is, ← other) (λ same. false≢true (w.if-not-agree.ensures.1 same)) in
          rw w.marks-is (one_marked c.args.sides.now.right rows firsts n c.loop-position.marks.items c.loop-position.invariant c.loop-position-test.true within out)
      | else-not-agree w ↦
          let alike : AgreeAt c.args.sides.now.right (row_at rows n) (row_at rows first) = rw (← is, ← other) (w.if-not-agree.ensures.0 refl) in
          rw w.marks-is (still_marks c.args.sides.now.right rows firsts n c.loop-position.marks.items c.loop-position.invariant alike)
    ]

pub returns : goal.returns
returns c =
    let end : c.loop-position.position ≡ length c.args.rows.now = omega arith in
    subst (λ (n : ℕ). AreMarks c.args.sides.now.right c.args.rows.now c.args.firsts.now n c.loop-position.marks.items) end c.loop-position.invariant
