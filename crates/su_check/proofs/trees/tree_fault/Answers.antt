-- The trees so far are good, so the first that isn't tells its row; one tree more than there are kept rows is a fault too.
use Rattle.std.proofs.Common.{◌≡◌, ◌<◌, ◌≤◌, length, get_or, slice_get, Some, refl, sym, ap, subst, ◌∙◌, true≢false, arith, below_more}
use Rattle.su_check.specs.Certificate.{IsGoodTree}
use Rattle.su_check.specs.Verdict.{not_good, surplus}
use Rattle.su_check.proofs.trees.tree_fault.Goals as goal

pub returns-then-not-branch : goal.returns-then-not-branch
returns-then-not-branch c =
    let low : c.loop-k.k < length c.args.term.now.kept = let l = c.loop-k-test.true in let e = c.len-k-end.ensures in omega arith in
    not_good c.loop-k.k low (ap (λ ks. get_or ks c.loop-k.k 0) c.as_slice.ensures) c.loop-k.invariant.good (λ g. true≢false (sym (c.in_ok-is_good_tree.ensures.tells.1 g) ∙ c.if-not-branch.true))

pub loop-k-preserved : goal.loop-k-preserved
loop-k-preserved c = record {
  good = below_more (IsGoodTree c.args.term.now) c.loop-k.k c.loop-k.invariant.good (c.in_ok-is_good_tree.ensures.tells.0 c.if-not-branch.false);
  ready = c.in_ok-is_good_tree.ensures.ready;
}

pub returns-then-len : goal.returns-then-len
returns-then-len c =
    let x = c.args.term.now in
    let end : length x.kept ≤ c.loop-k.k = let l = c.loop-k-test.false in let e = c.len-k-end.ensures in omega arith in
    surplus (λ j h. c.loop-k.invariant.good j (omega arith)) c.get.result.now (subst (λ n. slice_get x.trees n ≡ Some c.get.result.now) c.len-then-len.ensures c.get.ensures) refl
