-- The list so far is the declared sets and then those of the seeds so far that are listed; each seed adds what it grows to, or nothing.
use Rattle.std.proofs.Common.{sym, ◌∙◌}
use Rattle.su_maxobj.proofs.Listed.{listed_push, listed_skip}
use Rattle.su_maxobj.proofs.listing.listed_sets.Goals as goal
use Rattle.su_maxobj.proofs.listing.listed_sets.Goals.{then-is_listed+in_ok-push, else-is_listed}

pub loop-seed-preserved : goal.loop-seed-preserved
loop-seed-preserved c = elim c.if-is_listed.branch [
  | then-is_listed+in_ok-push w ↦
      listed_push _ _ _ _ _ c.loop-seed.invariant (sym c.is_listed.ensures ∙ w.if-is_listed.true) c.loop-seed-test.true _ w.index-grown-seed.is (w.sets-is ∙ w.in_ok-push.ensures.ok)
  | else-is_listed w ↦ listed_skip _ _ _ _ _ c.loop-seed.invariant (sym c.is_listed.ensures ∙ w.if-is_listed.false) w.sets-is
]
