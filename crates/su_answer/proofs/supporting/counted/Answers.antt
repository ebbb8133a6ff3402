-- The counts so far are those of the edges so far, and each is the definition's.
use Rattle.su_base.proofs.Items.{map-range_push}
use Rattle.su_answer.specs.inside.Supported.{counted_at}
use Rattle.su_answer.proofs.supporting.counted.Goals as goal

pub loop-k-preserved : goal.loop-k-preserved
loop-k-preserved c = map-range_push (counted_at c.args.numbers.now c.args.edges.now c.args.left.now) c.loop-k.k c.loop-k.counts c.push.new.self c.count_of.result c.in_ok-push.ensures.ok c.loop-k.invariant c.count_of.ensures
