-- The count so far is how many objects below the number are in the set, and no more than the number, of which there are at most 64.
use Rattle.std.proofs.Common.{sym, arith}
use Rattle.std.specs.FinSet.{contains}
use Rattle.su_base.proofs.PassingNumbers.{count_more, count_same}
use Rattle.su_steps.proofs.objects.object_count.Goals as goal
use Rattle.su_steps.proofs.objects.object_count.Goals.{then-contains, else-contains}

pub loop-o-preserved : goal.loop-o-preserved
loop-o-preserved c = elim c.if-contains.branch [
  | then-contains w ↦ record {
    is = count_more (contains c.args.set) c.loop-o.o c.loop-o.count c.if-contains.count c.loop-o.invariant.is (sym w.if-contains.ensures) w.count-is;
    few = omega (arith, w.count-is, c.loop-o.invariant.few);
  }
  | else-contains w ↦ record {
    is = count_same (contains c.args.set) c.loop-o.o c.loop-o.count c.if-contains.count c.loop-o.invariant.is (sym w.if-contains.ensures) w.count-is;
    few = omega (arith, w.count-is, c.loop-o.invariant.few);
  }
]
