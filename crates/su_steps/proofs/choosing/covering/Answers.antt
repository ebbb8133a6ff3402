-- The numbers so far are the maximal objects that cover the attributes.
use Rattle.su_steps.proofs.Covered.{covering_more}
use Rattle.su_steps.proofs.choosing.covering.Goals as goal

pub loop-m-preserved : goal.loop-m-preserved
loop-m-preserved c =
    covering_more c.args.schema.now c.args.maximal.now c.args.attributes c.loop-m.m c.index-maximal-m.result c.attributes_together.result c.within-wanted.result c.loop-m.numbers _ c.loop-m-test.true c.index-maximal-m.is c.attributes_together.ensures c.within-wanted.ensures c.loop-m.invariant c.in_ok-push_if.ensures.ok
