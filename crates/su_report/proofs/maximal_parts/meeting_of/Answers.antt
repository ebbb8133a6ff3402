-- An object of the core adds to the attributes that two have those that an earlier one has too.
use Rattle.std.proofs.Common.{sym, ap, ◌∙◌, arith}
use Rattle.std.specs.FinSet.{union, intersection}
use Rattle.su_base.proofs.Subsets.{set_at_read}
use Rattle.su_maxobj.proofs.Members.{below_added, below_kept, below_none}
use Rattle.su_report.proofs.Meeting.{twice_none, twice_more, twice_kept, twice_all}
use Rattle.su_report.proofs.maximal_parts.meeting_of.Goals as goal
use Rattle.su_report.proofs.maximal_parts.meeting_of.Goals.{then-contains, else-contains}

pub loop-o-init : goal.loop-o-init
loop-o-init c = record { once = below_none _ _ _ c.empty-once.ensures; twice = twice_none _ _ _ c.empty-twice.ensures }

pub loop-o-preserved : goal.loop-o-preserved
loop-o-preserved c =
    elim c.if-contains.branch [
      | then-contains w ↦ record {
        once = below_added _ _ _ _ c.loop-o.invariant.once (sym w.if-contains.ensures) c.if-contains.once (w.once-is ∙ w.union-once.ensures ∙ ap (union c.loop-o.once) (sym (set_at_read _ _ _ c.loop-o-test.true c.index-objects-o.is)));
        twice = twice_more _ _ _ _ _ c.loop-o.invariant.once c.loop-o.invariant.twice (sym w.if-contains.ensures) c.if-contains.twice
            (w.twice-is ∙ w.union-twice.ensures ∙ ap (union c.loop-o.twice) (w.meet.ensures ∙ ap (intersection c.loop-o.once) (sym (set_at_read _ _ _ c.loop-o-test.true c.index-objects-o.is))));
      }
      | else-contains w ↦ record {
        once = rw w.once-is (below_kept _ _ _ _ c.loop-o.invariant.once (sym w.if-contains.ensures));
        twice = rw w.twice-is (twice_kept _ _ _ _ _ c.loop-o.invariant.once c.loop-o.invariant.twice (sym w.if-contains.ensures));
      }
    ]

pub returns : goal.returns
returns c = twice_all _ _ _ _ (omega arith) c.loop-o.invariant.twice
