-- For each target so far the sets are those that agree with it, and one list more leaves those before it at their places.
use Rattle.std.proofs.Common.{[]}
use Rattle.su_base.proofs.Items.{length-pushed, get_or-pushed_each}
use Rattle.su_refute.specs.inside.Nets.{AreTold}
use Rattle.su_refute.proofs.nets.told_of.Goals as goal

pub told-requires-clause-shared : goal.told-requires-clause-shared
told-requires-clause-shared c = rw c.as_slice.ensures c.in_ok-shared.ensures.shared

pub loop-target-preserved : goal.loop-target-preserved
loop-target-preserved c =
    let t = c.args.t.now in let n = c.loop-target.target in
    record {
      one_each = length-pushed c.loop-target.lists c.push.new.self c.in_ok-told.field-0 n c.in_ok-push.ensures.ok c.loop-target.invariant.one_each;
      told = get_or-pushed_each (λ j. AreTold t c.args.mask c.args.row j) [] c.loop-target.lists c.push.new.self c.in_ok-told.field-0 n c.in_ok-push.ensures.ok c.loop-target.invariant.one_each c.loop-target.invariant.told c.in_ok-told.ensures;
    }
