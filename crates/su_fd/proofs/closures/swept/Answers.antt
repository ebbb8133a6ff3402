-- A pass stays within each closed set over the start and takes in the right side of every left side within the start; so the start is closed where nothing is added.
use Rattle.std.proofs.Common.{sym, ◌∙◌}
use Rattle.su_fd.proofs.OnePass.{swept_start, swept_skip, swept_push, swept_closed}
use Rattle.su_fd.proofs.closures.swept.Goals as goal
use Rattle.su_fd.proofs.closures.swept.Goals.{then-within, else-within}

pub loop-fd-init : goal.loop-fd-init
loop-fd-init c = swept_start _ _

pub loop-fd-preserved : goal.loop-fd-preserved
loop-fd-preserved c = elim c.if-within.branch [
  | then-within w ↦ swept_push _ _ _ _ _ c.loop-fd.invariant c.loop-fd-test.true c.fd-item.is (sym c.within.ensures ∙ w.if-within.true) _ (w.reached-is ∙ w.union-reached.ensures)
  | else-within w ↦ rw w.reached-is (swept_skip _ _ _ _ _ c.loop-fd.invariant c.loop-fd-test.true c.fd-item.is (sym c.within.ensures ∙ w.if-within.false))
]

pub returns-clause-grown : goal.returns-clause-grown
returns-clause-grown c = c.loop-fd.invariant.grown

pub returns-clause-least : goal.returns-clause-least
returns-clause-least c = c.loop-fd.invariant.least

pub returns-clause-settled : goal.returns-clause-settled
returns-clause-settled c = swept_closed _ _ _ _ c.loop-fd.invariant c.loop-fd-test.false

pub returns-clause-progress : goal.returns-clause-progress
returns-clause-progress c = c.loop-fd.invariant.progress
