-- What is listed is among the dependencies, and one that doesn't wait any more is listed; so when none waits the list has the same members.
use Rattle.std.proofs.Common.{◌∙◌}
use Rattle.std.proofs.lemmas.List.{length-set}
use Rattle.su_maxobj.proofs.OtherOrder.{place_less, place_from, place_all}
use Rattle.su_maxobj.proofs.ordering.placed.Goals as goal

pub loop-i-smaller : goal.loop-i-smaller
loop-i-smaller c =
    place_less _ _ _ _ _ _ c.in-Some.ensures c.loop-i.invariant.flags c.index-fds-i-in-Some.is c.in_ok-push.ensures.ok

pub loop-i-preserved : goal.loop-i-preserved
loop-i-preserved c = record {
  flags = length-set c.loop-i.waiting c.in-Some.i _ ∙ c.loop-i.invariant.flags;
  from = place_from _ _ _ _ _ _ c.in-Some.ensures c.loop-i.invariant.flags c.index-fds-i-in-Some.is c.in_ok-push.ensures.ok c.loop-i.invariant.from;
  placed = place_all _ _ _ _ _ _ c.in-Some.ensures c.loop-i.invariant.flags c.index-fds-i-in-Some.is c.in_ok-push.ensures.ok c.loop-i.invariant.placed;
}
