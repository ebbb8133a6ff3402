-- The comparisons so far are those that the head has at the places so far.
use Rattle.su_base.proofs.Items.{map-range_push}
use Rattle.su_answer.specs.Joined.{comparison_at}
use Rattle.su_answer.proofs.tasks.comparisons_of.Goals as goal

pub loop-i-preserved : goal.loop-i-preserved
loop-i-preserved c = map-range_push (comparison_at c.args.t.now) c.loop-i.i c.loop-i.comparisons c.push.new.self c.in_ok-comparison_of.field-0 c.in_ok-push.ensures.ok c.loop-i.invariant c.in_ok-comparison_of.ensures
