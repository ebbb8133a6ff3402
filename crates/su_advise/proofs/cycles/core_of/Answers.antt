-- Taking the last ear off leads on to the same core, and leaves fewer; without an ear the core is reached.
use Rattle.su_reduce.proofs.Rounds.{len_without}
use Rattle.su_base.proofs.Subsets.{subset_at}
use Rattle.su_advise.proofs.Keyed.{less_within}
use Rattle.su_advise.proofs.EarSteps.{leads_start, leads_next, leads_end}
use Rattle.su_advise.proofs.cycles.core_of.Goals as goal

pub loop-o-init : goal.loop-o-init
loop-o-init c = record { leads = leads_start _ _; within = c.requires.within }

pub loop-o-smaller : goal.loop-o-smaller
loop-o-smaller c = rw c.leave_out-left.ensures (len_without _ _ c.in-Some.ensures.0.0)

pub loop-o-preserved : goal.loop-o-preserved
loop-o-preserved c = rw c.leave_out-left.ensures (record {
  leads = leads_next _ _ _ _ c.in-Some.ensures c.loop-o.invariant.leads;
  within = λ k one. c.loop-o.invariant.within k (subset_at _ _ k (less_within _ _) one);
})

pub returns : goal.returns
returns c = leads_end _ _ _ c.in_default.ensures c.loop-o.invariant.leads
