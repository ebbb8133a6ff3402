-- The count of a list of coverings is the number at its head times the count of the rest, so that a place divides into the choice's first number and its place among the choices of the rest.
use Rattle.su_steps.proofs.ChoiceCounts.{step}
use Rattle.su_steps.proofs.choosing.choice_at.Goals as goal

pub nonzero_div-left : goal.nonzero_div-left
nonzero_div-left c =
    (step c.args.coverings.now c.loop-numbers.numbers-index c.numbers-item.result c.loop-numbers.rest c.len-rest.result c.loop-numbers.left c.loop-numbers-test.true c.numbers-item.is c.len-rest.ensures c.loop-numbers.invariant.rest c.loop-numbers.invariant.place).some

pub get-requires : goal.get-requires
get-requires c =
    (step c.args.coverings.now c.loop-numbers.numbers-index c.numbers-item.result c.loop-numbers.rest c.len-rest.result c.loop-numbers.left c.loop-numbers-test.true c.numbers-item.is c.len-rest.ensures c.loop-numbers.invariant.rest c.loop-numbers.invariant.place).place

pub nonzero_rem-left : goal.nonzero_rem-left
nonzero_rem-left c =
    (step c.args.coverings.now c.loop-numbers.numbers-index c.numbers-item.result c.loop-numbers.rest c.len-rest.result c.loop-numbers.left c.loop-numbers-test.true c.numbers-item.is c.len-rest.ensures c.loop-numbers.invariant.rest c.loop-numbers.invariant.place).some

pub loop-numbers-preserved : goal.loop-numbers-preserved
loop-numbers-preserved c =
    let s = step c.args.coverings.now c.loop-numbers.numbers-index c.numbers-item.result c.loop-numbers.rest c.len-rest.result c.loop-numbers.left c.loop-numbers-test.true c.numbers-item.is c.len-rest.ensures c.loop-numbers.invariant.rest c.loop-numbers.invariant.place in
    record {
      place = s.below;
      rest = s.rest_is;
      whole = s.whole _ _ _ _ c.loop-numbers.invariant.whole c.get.ensures c.in_ok-push.ensures.ok;
    }
