-- A good node names an open row, and its branches are exactly the fitting targets of that row, each with a good node; so the branches are compared with the candidates one by one.
use Rattle.std.proofs.Common.{ℕ, List, ◌<◌, ◌≤◌, ◌+◌, length, get_or, map, refl, sym, ap, subst, ◌∙◌, true≢false, arith}
use Rattle.std.proofs.lemmas.List.{length-map}
use Rattle.su_check.specs.Certificate.{lines_of}
use Rattle.su_check.specs.inside.Boards.{Keeps}
use Rattle.su_check.specs.Refutations.{IsOpen, IsFitting, row_named, branches_of, target_of}
use Rattle.su_check.proofs.Exactly.{front_skip}
use Rattle.su_check.proofs.Branches.{Passed, AreRefuted, is_open, fit_as, fit_from, branch_tells, too_few, wrong_branch, one_passed, one_refuted, all_passed, none_left}
use Rattle.su_check.proofs.ImagePlaces.{keeps_less, keeps_step, ready_kept}
use Rattle.su_check.proofs.refuting.+refuting.Goals as goal
use Rattle.su_check.proofs.refuting.+refuting.Goals.{refutes-then-branch+else-passed-len+in_ok-branch_refutes+else-not-branch, refutes-else-branch}

pub branch_refutes-returns-clause-keeps : goal.branch_refutes-returns-clause-keeps
branch_refutes-returns-clause-keeps t c =
    let x = lines_of c.args.claim.now.term.now in
    keeps_less x c.args.claim.now.board.now c.args.sent.now (record { row = c.args.row; target = c.args.target }) c.args.places.now c.refutes.new.places
    (subst (λ p. Keeps x c.args.claim.now.board.now p c.args.places.now c.refutes.new.places) c.in_ok-push.ensures.ok c.in_ok-refuted.ensures.keeps)

pub refutes-returns-then-not-is_open-clause-tells : goal.refutes-returns-then-not-is_open-clause-tells
refutes-returns-then-not-is_open-clause-tells t c =
    let x = lines_of c.args.claim.now.term.now in let n = c.args.node.now in let p = c.args.sent.now in (
      λ none. absurd (true≢false (sym none)),
      λ h. absurd (true≢false (sym (c.is_open.ensures.1 (subst (λ p. IsOpen x p (row_named n)) (sym c.as_slice.ensures) (is_open x c.args.claim.now.left_out n p h))) ∙ c.if-not-is_open.true)),
    )

pub refutes-is_fitting-requires-clause-ready : goal.refutes-is_fitting-requires-clause-ready
refutes-is_fitting-requires-clause-ready t c = ready_kept (lines_of c.args.claim.now.term.now) c.args.claim.now.board.now c.args.sent.now c.loop-target.sent c.args.places.now c.loop-target.places c.requires.ready c.loop-target.invariant.keeps c.loop-target.invariant.same

pub refutes-returns-then-passed-len-clause-tells : goal.refutes-returns-then-passed-len-clause-tells
refutes-returns-then-passed-len-clause-tells t c =
    let x = lines_of c.args.claim.now.term.now in let n = c.args.node.now in let p = c.args.sent.now in
    let fit = fit_as x c.args.claim.now.left_out (row_named n) c.loop-target.target-index p c.loop-target.sent c.as_slice-target-items.result.now c.loop-target.invariant.same c.as_slice-target-items.ensures (c.in_ok-is_fitting.ensures.fits.0 c.if-branch.true) in
    let low : c.loop-target.target-index < length c.args.claim.now.term.now.kept = subst (λ (ks : List ℕ). c.loop-target.target-index < length ks) c.as_slice-target-items.ensures c.loop-target-test.true in (
      λ none. absurd (true≢false (sym none)),
      λ h. absurd (too_few x c.args.claim.now.left_out n p c.loop-target.target-index c.loop-target.passed c.requires.ready.ascending low c.loop-target.invariant.front fit (c.if-passed-len.true ∙ c.len.ensures) h),
    )

pub refutes-returns-then-passed-len-clause-keeps : goal.refutes-returns-then-passed-len-clause-keeps
refutes-returns-then-passed-len-clause-keeps t c =
    keeps_step (lines_of c.args.claim.now.term.now) c.args.claim.now.board.now c.args.sent.now c.loop-target.sent c.args.places.now c.loop-target.places _ c.loop-target.invariant.keeps c.loop-target.invariant.same c.in_ok-is_fitting.ensures.keeps

pub refutes-returns-then-not-branch-clause-keeps : goal.refutes-returns-then-not-branch-clause-keeps
refutes-returns-then-not-branch-clause-keeps t c =
    let x = lines_of c.args.claim.now.term.now in let b = c.args.claim.now.board.now in let p = c.args.sent.now in let start = c.args.places.now in
    let first = keeps_step x b p c.loop-target.sent start c.loop-target.places c.is_fitting.new.places c.loop-target.invariant.keeps c.loop-target.invariant.same c.in_ok-is_fitting.ensures.keeps in
    keeps_step x b p c.is_fitting.new.sent start c.is_fitting.new.places _ first (c.in_ok-is_fitting.ensures.same ∙ c.loop-target.invariant.same) c.in_ok-branch_refutes.ensures.keeps

pub refutes-returns-then-not-branch-clause-tells : goal.refutes-returns-then-not-branch-clause-tells
refutes-returns-then-not-branch-clause-tells t c =
    let x = lines_of c.args.claim.now.term.now in let n = c.args.node.now in let p = c.args.sent.now in let r = c.args.claim.now.left_out in let i = c.loop-target.target-index in let q = c.loop-target.passed in
    let b = c.index-as_slice-passed.result in
    let fit = fit_as x r (row_named n) i p c.loop-target.sent c.as_slice-target-items.result.now c.loop-target.invariant.same c.as_slice-target-items.ensures (c.in_ok-is_fitting.ensures.fits.0 c.if-branch.true) in
    let low : i < length c.args.claim.now.term.now.kept = subst (λ (ks : List ℕ). i < length ks) c.as_slice-target-items.ensures c.loop-target-test.true in
    let below : q < length (branches_of n) = let w = c.loop-target.invariant.front.within in let m = length-map (branches_of n) target_of in let e = c.len.ensures in let ne = c.if-passed-len.false in omega arith in
    let is = c.index-as_slice-passed.is ∙ ap (λ bs. get_or bs q b) c.as_slice-then-branch.ensures in
    let tells = branch_tells x r (row_named n) i b p c.is_fitting.new.sent c.as_slice-target-items.result.now c.in_ok-branch_refutes.field-0 (c.in_ok-is_fitting.ensures.same ∙ c.loop-target.invariant.same) c.as_slice-target-items.ensures c.in_ok-branch_refutes.ensures.tells in (
      λ none. absurd (true≢false (sym none)),
      λ h. absurd (wrong_branch x r n p i q b c.requires.ready.ascending low c.loop-target.invariant.front fit below is (λ good. true≢false (sym (tells.1 good) ∙ c.if-not-branch.true)) h),
    )

pub refutes-loop-target-preserved : goal.refutes-loop-target-preserved
refutes-loop-target-preserved t c =
    let x = lines_of c.args.claim.now.term.now in let n = c.args.node.now in let p = c.args.sent.now in let r = c.args.claim.now.left_out in let i = c.loop-target.target-index in let q = c.loop-target.passed in
    let board = c.args.claim.now.board.now in let start = c.args.places.now in
    let same = c.loop-target.invariant.same in
    let low : i < length c.args.claim.now.term.now.kept = subst (λ (ks : List ℕ). i < length ks) c.as_slice-target-items.ensures c.loop-target-test.true in
    let first = keeps_step x board p c.loop-target.sent start c.loop-target.places c.is_fitting.new.places c.loop-target.invariant.keeps same c.in_ok-is_fitting.ensures.keeps in
    elim c.if-branch.branch [
      | refutes-then-branch+else-passed-len+in_ok-branch_refutes+else-not-branch w ↦
          let b = w.index-as_slice-passed.result in
          let same' = c.in_ok-is_fitting.ensures.same ∙ same in
          let fit = fit_as x r (row_named n) i p c.loop-target.sent c.as_slice-target-items.result.now same c.as_slice-target-items.ensures (c.in_ok-is_fitting.ensures.fits.0 w.if-branch.true) in
          let below : q < length (branches_of n) = let f = c.loop-target.invariant.front.within in let m = length-map (branches_of n) target_of in let e = w.len.ensures in let ne = w.if-passed-len.false in omega arith in
          let is = w.index-as_slice-passed.is ∙ ap (λ bs. get_or bs q b) w.as_slice-then-branch.ensures in
          let tells = branch_tells x r (row_named n) i b p c.is_fitting.new.sent c.as_slice-target-items.result.now w.in_ok-branch_refutes.field-0 same' c.as_slice-target-items.ensures w.in_ok-branch_refutes.ensures.tells in
          let good = tells.0 w.if-not-branch.false in
          record {
            same = w.sent-is ∙ w.in_ok-branch_refutes.ensures.same ∙ same';
            keeps = subst (Keeps x board p start) (sym w.places-is) (keeps_step x board p c.is_fitting.new.sent start c.is_fitting.new.places w.branch_refutes.new.places first same' w.in_ok-branch_refutes.ensures.keeps);
            front = subst (Passed x r n p (i + 1)) (sym w.passed-is) (one_passed x r n p i q b c.requires.ready.ascending low c.loop-target.invariant.front fit below is good.0);
            good = subst (AreRefuted x r n p) (sym w.passed-is) (one_refuted x r n p q (get_or c.args.claim.now.term.now.kept i 0) b c.loop-target.invariant.good below is good.0 good.1);
          }
      | refutes-else-branch w ↦ record {
        same = w.sent-is ∙ c.in_ok-is_fitting.ensures.same ∙ same;
        keeps = subst (Keeps x board p start) (sym w.places-is) first;
        front = subst (Passed x r n p (i + 1)) (sym w.passed-is)
            (front_skip (IsFitting x r p (row_named n)) x.kept (map target_of (branches_of n)) i q c.loop-target.invariant.front (λ fit. true≢false (sym (c.in_ok-is_fitting.ensures.fits.1 (fit_from x r (row_named n) i p c.loop-target.sent c.as_slice-target-items.result.now same c.as_slice-target-items.ensures fit)) ∙ w.if-branch.false)));
        good = subst (AreRefuted x r n p) (sym w.passed-is) c.loop-target.invariant.good;
      }
    ]

pub refutes-returns-then-passed-len-2-clause-tells : goal.refutes-returns-then-passed-len-2-clause-tells
refutes-returns-then-passed-len-2-clause-tells t c =
    let x = lines_of c.args.claim.now.term.now in let n = c.args.node.now in let p = c.args.sent.now in
    let end : length c.args.claim.now.term.now.kept ≤ c.loop-target.target-index = subst (λ (ks : List ℕ). length ks ≤ c.loop-target.target-index) c.as_slice-target-items.ensures (let l = c.loop-target-test.false in omega arith) in (
      λ none. absurd (true≢false (sym none)),
      λ h. absurd (c.if-passed-len-2.true (none_left x c.args.claim.now.left_out n p c.loop-target.target-index c.loop-target.passed end c.loop-target.invariant.front h ∙ sym c.len-2.ensures)),
    )

pub refutes-returns-then-passed-len-2-clause-keeps : goal.refutes-returns-then-passed-len-2-clause-keeps
refutes-returns-then-passed-len-2-clause-keeps t c = c.loop-target.invariant.keeps

pub refutes-returns-clause-keeps : goal.refutes-returns-clause-keeps
refutes-returns-clause-keeps t c = c.loop-target.invariant.keeps

pub refutes-returns-clause-tells : goal.refutes-returns-clause-tells
refutes-returns-clause-tells t c =
    let x = lines_of c.args.claim.now.term.now in let n = c.args.node.now in let p = c.args.sent.now in
    let end : length c.args.claim.now.term.now.kept ≤ c.loop-target.target-index = subst (λ (ks : List ℕ). length ks ≤ c.loop-target.target-index) c.as_slice-target-items.ensures (let l = c.loop-target-test.false in omega arith) in
    let open' = subst (λ p. IsOpen x p (row_named n)) c.as_slice.ensures (c.is_open.ensures.0 c.if-not-is_open.false) in
    (λ yes. all_passed x c.args.claim.now.left_out n p c.loop-target.target-index c.loop-target.passed open' end c.loop-target.invariant.front c.loop-target.invariant.good (c.if-passed-len-2.false ∙ c.len-2.ensures), λ h. refl)
