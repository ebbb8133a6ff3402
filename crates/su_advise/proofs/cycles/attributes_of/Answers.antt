-- The union so far is that of the members among the objects so far, and each object adds its attributes where it is a member.
use Rattle.std.proofs.Common.{sym, ap, ◌∙◌, arith}
use Rattle.std.specs.FinSet.{union}
use Rattle.su_base.proofs.Subsets.{set_at_read}
use Rattle.su_maxobj.proofs.Members.{below_added, below_kept, below_none, below_all}
use Rattle.su_advise.proofs.cycles.attributes_of.Goals as goal
use Rattle.su_advise.proofs.cycles.attributes_of.Goals.{then-contains, else-contains}

pub loop-o-init : goal.loop-o-init
loop-o-init c = below_none _ _ _ c.empty-all.ensures

pub loop-o-preserved : goal.loop-o-preserved
loop-o-preserved c =
    elim c.if-contains.branch [
      | then-contains w ↦ below_added _ _ _ _ c.loop-o.invariant (sym w.if-contains.ensures) c.if-contains.all
          (w.all-is ∙ w.union-all.ensures ∙ ap (union c.loop-o.all) (sym (set_at_read _ _ _ c.loop-o-test.true c.index-objects-o.is)))
      | else-contains w ↦ rw w.all-is (below_kept _ _ _ _ c.loop-o.invariant (sym w.if-contains.ensures))
    ]

pub returns : goal.returns
returns c = below_all _ _ _ _ (omega arith) c.loop-o.invariant
