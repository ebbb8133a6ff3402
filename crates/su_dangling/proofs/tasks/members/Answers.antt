-- The numbers so far are the members of the set below the next, and it comes to the end where it is one.
use Rattle.std.specs.FinSet.{contains}
use Rattle.su_base.proofs.PassingNumbers.{passing_push}
use Rattle.su_dangling.proofs.tasks.members.Goals as goal

pub loop-a-preserved : goal.loop-a-preserved
loop-a-preserved c = passing_push (contains c.args.set) c.loop-a.a c.contains.result _ _ c.loop-a.invariant c.contains.ensures c.in_ok-push_if.ensures.ok
