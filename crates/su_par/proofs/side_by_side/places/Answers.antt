-- The places so far have the jobs so far, in order.
use Rattle.std.proofs.Common.{◌≡◌, Some, refl}
use Rattle.std.proofs.lemmas.Slice.Zip.{all_zipped_more}
use Rattle.su_par.proofs.side_by_side.places.Goals as goal

pub loop-job-preserved : goal.loop-job-preserved
loop-job-preserved g c = rw c.in_ok-push.ensures.ok (all_zipped_more (λ job place. place.job ≡ Some job) c.loop-job.yielded c.loop-job.places c.in-Some.job _ c.loop-job.invariant refl)
