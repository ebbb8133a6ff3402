-- The kept ones so far are ruled out, and share with what is added nothing beyond what the members have already.
use Rattle.std.proofs.Common.{sym, ap, ◌∙◌}
use Rattle.std.specs.FinSet.{is_subset}
use Rattle.su_base.proofs.Subsets.{set_at_read}
use Rattle.su_maxobj.proofs.Members.{unmoved_none, unmoved_push}
use Rattle.su_maxobj.proofs.growing.unmoved.Goals as goal
use Rattle.su_maxobj.proofs.growing.unmoved.Goals.{then-within, else-within}

pub loop-r-init : goal.loop-r-init
loop-r-init c = unmoved_none _ _ _ _ _ c.empty-kept.ensures

pub loop-r-preserved-then-not-contains : goal.loop-r-preserved-then-not-contains
loop-r-preserved-then-not-contains c = c.loop-r.invariant

pub loop-r-preserved : goal.loop-r-preserved
loop-r-preserved c =
    elim c.if-within.branch [
      | then-within w ↦ unmoved_push _ _ _ _ _ _ _ _ c.loop-r.invariant (set_at_read _ _ _ c.loop-r-test.true c.index-objects-r.is) (sym c.if-not-contains.ensures)
          (ap (λ z. is_subset z c.args.members) (sym c.meet.ensures) ∙ sym c.within.ensures ∙ w.if-within.true) (w.kept-is ∙ w.insert-kept.ensures)
      | else-within w ↦ rw w.kept-is c.loop-r.invariant
    ]

pub returns-clause-within : goal.returns-clause-within
returns-clause-within c = c.loop-r.invariant.within

pub returns-clause-unmoved : goal.returns-clause-unmoved
returns-clause-unmoved c = c.loop-r.invariant.unmoved
