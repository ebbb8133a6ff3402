-- The sets so far are the attributes of the maximal objects so far; the next one's come to the end.
use Rattle.std.proofs.Common.{sym, subst}
use Rattle.std.specs.Ordering.{nat_cmp}
use Rattle.std.specs.FinSet.{FinSet, empty}
use Rattle.su_base.specs.Sets.{set_at}
use Rattle.su_base.proofs.Items.{length-pushed, get_or-pushed_each}
use Rattle.su_base.proofs.Subsets.{set_at_read}
use Rattle.su_maxobj.specs.AdjoinableObjects.{IsAttributesOf}
use Rattle.su_report.proofs.pair_parts.covers.Goals as goal

pub loop-set-preserved : goal.loop-set-preserved
loop-set-preserved c =
    let inv = c.loop-set.invariant in
    let n = c.loop-set.set-index in
    let maximal = c.args.maximal.now in
    let own : IsAttributesOf c.args.objects.now (set_at maximal n) c.attributes_of.result =
    subst (λ (s : FinSet nat_cmp). IsAttributesOf c.args.objects.now s c.attributes_of.result) (sym (set_at_read maximal n c.set-item.result c.loop-set-test.true c.set-item.is)) c.attributes_of.ensures in
    record {
      same_length = length-pushed c.loop-set.list c.push.new.self c.attributes_of.result n c.in_ok-push.ensures.ok inv.same_length;
      each = get_or-pushed_each (λ k s. IsAttributesOf c.args.objects.now (set_at maximal k) s) empty c.loop-set.list c.push.new.self c.attributes_of.result n c.in_ok-push.ensures.ok inv.same_length inv.each own;
    }
