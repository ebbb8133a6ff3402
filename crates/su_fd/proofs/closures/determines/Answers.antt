-- A set is within the closure exactly where each of its attributes is in it.
use Rattle.std.proofs.Common.{sym, ◌∙◌}
use Rattle.su_base.proofs.Subsets.{subset_at, subset_by}
use Rattle.su_fd.proofs.closures.determines.Goals as goal

pub returns : goal.returns
returns c = (
  λ all a one. (c.closure.ensures a).0 (subset_at _ _ a (sym c.within.ensures ∙ all) one),
  λ each. c.within.ensures ∙ subset_by _ _ (λ a one. (c.closure.ensures a).1 (each a one)),
)
