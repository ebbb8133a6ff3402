-- The net so far has, for each row so far, its targets and what agrees with each of them; pushing those of the next row leaves them at their places.
use Rattle.std.proofs.Common.{◌≡◌, []}
use Rattle.std.specs.Int.{bit_at}
use Rattle.su_base.proofs.Items.{length-pushed, get_or-pushed_each}
use Rattle.su_refute.specs.inside.Nets.{IsBase, AreToldOf}
use Rattle.su_refute.proofs.nets.Net.of.Goals as goal

pub loop-row-preserved : goal.loop-row-preserved
loop-row-preserved c =
    let t = c.args.t.now in let m = c.args.mask in let n = c.loop-row.row in
    record {
      bases = length-pushed c.loop-row.base c.push.new.self c.in_ok-targets.targets n c.in_ok-push.ensures.ok c.loop-row.invariant.bases;
      base = get_or-pushed_each (λ q v. bit_at m q ≡ 1 → IsBase t m q v) 0 c.loop-row.base c.push.new.self c.in_ok-targets.targets n c.in_ok-push.ensures.ok c.loop-row.invariant.bases c.loop-row.invariant.base c.in_ok-targets.ensures.base;
      lists = length-pushed c.loop-row.agree c.push-in-loop-row.new.self c.in_ok-targets.lists n c.in_ok-push-2.ensures.ok c.loop-row.invariant.lists;
      agree = get_or-pushed_each (λ s v. bit_at m s ≡ 1 → AreToldOf t m s v) [] c.loop-row.agree c.push-in-loop-row.new.self c.in_ok-targets.lists n c.in_ok-push-2.ensures.ok c.loop-row.invariant.lists c.loop-row.invariant.agree c.in_ok-targets.ensures.agree;
    }
