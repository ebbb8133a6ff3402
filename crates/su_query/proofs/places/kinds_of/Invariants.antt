use Rattle.std.proofs.Common.{◌≡◌, take}
use Rattle.su_query.specs.Ranges.{place_kinds}
use Rattle.su_query.proofs.places.kinds_of.Given as goal

abbrev pub invariant-loop-place : goal.invariant-loop-place
invariant-loop-place l = l.kinds ≡ place_kinds l.schema (take l.place-index l.places)
