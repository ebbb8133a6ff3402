-- Of the kept rows tried so far, those to which the row goes alone are in the set; after each try no row is sent again.
use Rattle.std.proofs.Common.{◌≡◌, ◌+◌, ℕ, List, [], get_or, sym, ap, subst, ◌∙◌, true≢false}
use Rattle.su_check.specs.Certificate.{lines_of}
use Rattle.su_check.proofs.ImagePlaces.{ready_kept, ready_as}
use Rattle.su_check.proofs.PossibleTargets.{HasTried, tried_in, tried_out}
use Rattle.su_check.proofs.guides.alone.Goals as goal
use Rattle.su_check.proofs.guides.alone.Goals.{then-branch, else-branch}

pub loop-target-preserved : goal.loop-target-preserved
loop-target-preserved c =
    let t = lines_of c.args.term.now in let b = c.args.board.now in let s = c.args.row in let n = c.loop-target.target-index in
    let none = c.loop-target.invariant.none in
    let done = c.loop-target.invariant.done in
    let is : get_or c.as_slice-target-items.result.now n 0 ≡ get_or t.kept n 0 = ap (λ (ks : List ℕ). get_or ks n 0) c.as_slice-target-items.ensures in
    let ready = ready_kept t b c.loop-target.sent [] c.loop-target.places c.fits.new.places (ready_as t b [] c.loop-target.sent c.loop-target.places (sym none) c.loop-target.invariant.ready) c.in_ok-fits.ensures.keeps (sym none) in
    elim c.if-branch.branch [
      | then-branch w ↦ record {
        none = c.in_ok-fits.ensures.same ∙ none;
        ready = ready;
        done = subst (HasTried t s (n + 1)) (sym w.set-is) (tried_in t s n c.loop-target.set w.with-set.result _ is done w.with-set.ensures.stays w.with-set.ensures.member);
      }
      | else-branch w ↦ record {
        none = c.in_ok-fits.ensures.same ∙ none;
        ready = ready;
        done = subst (HasTried t s (n + 1)) (sym w.set-is) (tried_out t s n c.loop-target.set _ c.loop-target.sent is none done (λ sent. true≢false (sym (c.in_ok-fits.ensures.tells.1 sent) ∙ w.if-branch.false)));
      }
    ]
