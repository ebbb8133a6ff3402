-- Each place is run by one thread by itself, so that it holds for each pair of places holds along the list.
use Rattle.std.proofs.Common.{◌≡◌, Some, IfSome, subst}
use Rattle.su_par.specs.declared.side_by_side.JobSlot.{JobSlot}
use Rattle.su_par.proofs.Zips.{zip-each}
use Rattle.su_par.proofs.side_by_side.run_all.Goals as goal

pub returns : goal.returns
returns g c =
    zip-each (λ before after. (job : g.row.J.Denot) → before.job ≡ Some job → IfSome after.out (g.J.Job.gives job)) c.args.places.now c.for_each_mut.new.s c.for_each_mut.auto.s
    (λ i d lt job waits.
    let ran = (c.for_each_mut.ensures i d lt).1 in
    subst (λ (place : JobSlot g.row.J.Denot g.row.J-Out.Denot). IfSome place.out (g.J.Job.gives job)) ran.left (ran.call job (rw ran.argument_is waits)))
