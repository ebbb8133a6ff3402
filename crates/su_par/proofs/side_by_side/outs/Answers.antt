-- The outs so far are those that the places so far have, in order.
use Rattle.std.proofs.Common.{◌≡◌, Some}
use Rattle.std.proofs.lemmas.Slice.Zip.{all_zipped_more}
use Rattle.su_par.proofs.side_by_side.outs.Goals as goal

pub loop-place-preserved : goal.loop-place-preserved
loop-place-preserved g c = rw c.in_ok-push.ensures.ok (all_zipped_more (λ place out. place.out ≡ Some out) c.loop-place.yielded c.loop-place.outs c.in-Some.place c.in_ok-into_out.field-0 c.loop-place.invariant c.in_ok-into_out.ensures)
