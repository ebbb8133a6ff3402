-- Those so far of the core that have the attribute; the next comes to the end where it has.
use Rattle.std.proofs.Common.{length, IsTrue, arith}
use Rattle.std.specs.FinSet.{contains}
use Rattle.su_base.specs.Sets.{set_at}
use Rattle.su_advise.proofs.Passed.{passed_none, passed_next, passed_two}
use Rattle.su_advise.proofs.cycles.meeting_in.Goals as goal

pub loop-o-init : goal.loop-o-init
loop-o-init c = passed_none _ _ c.new-found.ensures

pub loop-o-preserved : goal.loop-o-preserved
loop-o-preserved c = passed_next (λ o. IsTrue (contains c.args.core o) × IsTrue (contains (set_at c.args.objects.now o) c.args.a)) _ _ _ _ (c.meets.ensures) c.loop-o.invariant c.in_ok-push_if.ensures.ok

pub returns : goal.returns
returns c = passed_two (λ o. IsTrue (contains c.args.core o)) (λ o. IsTrue (contains (set_at c.args.objects.now o) c.args.a)) c.loop-o.o (length c.args.objects.now) c.loop-o.found (omega arith) c.loop-o.invariant
