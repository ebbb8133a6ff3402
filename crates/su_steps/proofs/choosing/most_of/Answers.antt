-- The greatest so far is that of the maximal objects so far; the next one's count is at most 64, and so is the greater of the two.
use Rattle.std.proofs.Common.{◌∙◌, arith}
use Rattle.su_base.proofs.Numbers.{ord_max-numbers}
use Rattle.su_steps.proofs.ChoiceCounts.{most_step}
use Rattle.su_steps.proofs.choosing.most_of.Goals as goal

pub loop-m-preserved : goal.loop-m-preserved
loop-m-preserved c =
    let e = c.max-most.ensures ∙ ord_max-numbers c.loop-m.most c.object_count.result in
    record {
      is = most_step c.args.schema.now c.args.maximal.now c.args.numbers.now c.loop-m.m-index c.loop-m.most c.object_count.result c.max-most.result c.index-maximal-m.result c.loop-m-test.true c.requires c.index-maximal-m.is c.object_count.ensures.is c.loop-m.invariant.is e;
      few = omega (arith, e, c.object_count.ensures.few, c.loop-m.invariant.few);
    }
