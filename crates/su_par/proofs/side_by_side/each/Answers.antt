-- Each place has its job, the run gives it an out that the job may give, and what is taken out at the end is that; three relations along the list make one.
use Rattle.std.proofs.Common.{◌≡◌, Some, arith, length}
use Rattle.std.proofs.lemmas.Result.{IfOk-weaker}
use Rattle.std.proofs.Math.Seq.{take-append_seam}
use Rattle.std.specs.List.{AllZip}
use Rattle.su_par.proofs.Zips.{zip-through}
use Rattle.su_par.proofs.side_by_side.each.Goals as goal

pub returns : goal.returns
returns g c =
    let between = rw (c.as_mut_slice.ensures.value, c.into_vec-places.ensures) at c.run_all.ensures in
    let long : c.into_vec-places.result.len ≡ length c.run_all.new.places = omega arith in
    IfOk-weaker _ _ (λ outs. AllZip g.J.Job.gives c.args.jobs outs)
    (λ outs out. zip-through (λ job place. place.job ≡ Some job) _ (λ place out. place.out ≡ Some out) g.J.Job.gives
    (λ job p q out into becomes is. rw is at (becomes job into))
    c.args.jobs _ _ outs c.in_ok-places.ensures between (rw (long, take-append_seam) at out))
    c.outs.ensures
