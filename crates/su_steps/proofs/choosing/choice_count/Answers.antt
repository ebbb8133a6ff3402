-- The choices are the product of the coverings' lengths, and 257 once they are beyond it.
use Rattle.std.proofs.Common.{◌∙◌}
use Rattle.su_steps.proofs.ChoiceCounts.{counted_more}
use Rattle.su_steps.proofs.choosing.choice_count.Goals as goal

pub loop-numbers-preserved : goal.loop-numbers-preserved
loop-numbers-preserved c =
    c.min-count.ensures
    ∙ counted_more c.args.coverings.now c.loop-numbers.numbers-index c.numbers-item.result c.loop-numbers.count c.len.result c.loop-numbers-test.true c.numbers-item.is c.len.ensures c.loop-numbers.invariant
