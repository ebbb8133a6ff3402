-- Those so far that have both; the next comes to the end where it has.
use Rattle.std.proofs.Common.{length, ◌≡◌, ◌∙◌, ap, sym, true, arith}
use Rattle.su_base.specs.Sets.{set_at}
use Rattle.su_base.proofs.Subsets.{set_at_read}
use Rattle.su_advise.specs.Covering.{has_both}
use Rattle.su_advise.proofs.Passed.{passed_none, passed_next, passed_all, equally}
use Rattle.su_advise.proofs.covering.covers_of.Goals as goal

pub loop-k-init : goal.loop-k-init
loop-k-init c = passed_none _ _ c.new-found.ensures

pub loop-k-preserved : goal.loop-k-preserved
loop-k-preserved c = passed_next (λ k. has_both c.args.a c.args.b (set_at c.args.covers.now k) ≡ true) _ _ _ _ (equally _ _ (c.has_both.ensures ∙ ap (has_both c.args.a c.args.b) (sym (set_at_read _ _ _ c.loop-k-test.true c.index-covers-k.is)))) c.loop-k.invariant c.in_ok-push_if.ensures.ok

pub returns : goal.returns
returns c = passed_all (λ k. has_both c.args.a c.args.b (set_at c.args.covers.now k) ≡ true) c.loop-k.k (length c.args.covers.now) c.loop-k.found (omega arith) c.loop-k.invariant
