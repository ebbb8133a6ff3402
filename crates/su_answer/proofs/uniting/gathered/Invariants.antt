use Rattle.std.proofs.Common.{length}
use Rattle.su_answer.proofs.FoundLists.{AreInOrder}
use Rattle.su_answer.proofs.uniting.gathered.Given as goal

abbrev pub invariant-loop-list : goal.invariant-loop-list
invariant-loop-list l = AreInOrder l.fn.lists l.lists l.fn.so_far l.all

abbrev pub decreases-loop-list : goal.decreases-loop-list
decreases-loop-list l = length l.lists
