-- The rows so far are sent to their targets cell by cell, and each symbol has the image that its first cell gave it.
use Rattle.std.proofs.Common.{◌≡◌, ◌<◌, ◌≤◌, length, get_or, Contains, refl, sym, ap, subst, ◌∙◌, true≢false, arith, below_more}
use Rattle.su_check.specs.SentRows.{sent_too}
use Rattle.su_check.specs.Certificate.{lines_of}
use Rattle.su_check.proofs.ImagePlaces.{ready_none, ready_kept, ready_as}
use Rattle.su_check.proofs.FoldTargets.{fold_keeps, fits_next, fold_more, fold_from}
use Rattle.su_check.proofs.folds.is_good_fold.Goals as goal

pub loop-i-init : goal.loop-i-init
loop-i-init c = record {
  list = c.new-sent.ensures;
  into = λ i h. absurd (omega arith);
  ready = ready_as (lines_of c.args.term.now) c.args.board.now _ c.new-sent.result c.args.places.now (sym c.new-sent.ensures) c.requires.ready;
}

pub returns-then-not-contains : goal.returns-then-not-contains
returns-then-not-contains c =
    let low : c.loop-i.i < length c.args.term.now.rows = let l = c.loop-i-test.true in let e = c.len-i-end.ensures in omega arith in
    record {
      tells = (
        λ none. absurd (true≢false (sym none)),
        λ f. sym c.if-not-contains.true ∙ c.contains.ensures.1 (fold_keeps (lines_of c.args.term.now) c.args.term.now.fold c.as_slice.result.now c.as_slice-in-loop-i.result.now c.loop-i.i c.as_slice.ensures c.as_slice-in-loop-i.ensures f low),
      );
      ready = ready_none (lines_of c.args.term.now) c.args.board.now c.loop-i.sent c.loop-i.places c.loop-i.invariant.ready;
    }

pub returns-then-not-branch : goal.returns-then-not-branch
returns-then-not-branch c =
    let x = lines_of c.args.term.now in
    let low : c.loop-i.i < length c.args.term.now.rows = let l = c.loop-i-test.true in let e = c.len-i-end.ensures in omega arith in
    record {
      tells = (
        λ none. absurd (true≢false (sym none)),
        λ f. sym c.if-not-branch.true ∙ c.in_ok-fits.ensures.tells.1 (fits_next x c.args.term.now.fold c.as_slice.result.now c.loop-i.sent c.loop-i.i c.as_slice.ensures c.loop-i.invariant.list f low),
      );
      ready = ready_none x c.args.board.now c.loop-i.sent c.fits.new.places (ready_kept x c.args.board.now c.loop-i.sent c.loop-i.sent c.loop-i.places c.fits.new.places c.loop-i.invariant.ready c.in_ok-fits.ensures.keeps refl);
    }

pub loop-i-preserved : goal.loop-i-preserved
loop-i-preserved c =
    let x = lines_of c.args.term.now in let i = c.loop-i.i in
    let kept = subst (λ ks. Contains ks (get_or c.as_slice.result.now i 0)) c.as_slice-in-loop-i.ensures (c.contains.ensures.0 c.if-not-contains.false) in
    let pushed : c.push.new.self ≡ sent_too c.loop-i.sent i (get_or c.as_slice.result.now i 0) = c.in_ok-push.ensures.ok ∙ ap (λ p. sent_too p i (get_or c.as_slice.result.now i 0)) c.in_ok-fits.ensures.same in
    record {
      list = pushed ∙ fold_more c.args.term.now.fold c.as_slice.result.now c.loop-i.sent i c.as_slice.ensures c.loop-i.invariant.list;
      into = below_more (λ i. Contains c.args.term.now.kept (get_or c.args.term.now.fold i 0)) i c.loop-i.invariant.into (subst (λ ks. Contains c.args.term.now.kept (get_or ks i 0)) c.as_slice.ensures kept);
      ready = ready_as x c.args.board.now _ c.push.new.self c.fits.new.places (sym pushed) (c.in_ok-fits.ensures.ready c.if-not-branch.false);
    }

pub returns : goal.returns
returns c =
    let x = lines_of c.args.term.now in
    let len : length c.args.term.now.fold ≡ length c.args.term.now.rows = sym c.len.ensures ∙ c.if-len.false ∙ c.len-2.ensures in
    let end : length c.args.term.now.rows ≤ c.loop-i.i = let l = c.loop-i-test.false in let e = c.len-i-end.ensures in omega arith in
    record {
      tells = (λ all. fold_from x c.args.term.now.fold c.loop-i.i c.loop-i.sent len end c.loop-i.invariant.list c.loop-i.invariant.ready.sent c.loop-i.invariant.into, λ f. refl);
      ready = ready_none x c.args.board.now c.loop-i.sent c.loop-i.places c.loop-i.invariant.ready;
    }
