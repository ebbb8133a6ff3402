use Rattle.std.proofs.Common.{◌≡◌, take}
use Rattle.su_query.specs.Sets.{mentioned_with}
use Rattle.su_query.proofs.sets.mentioned.Given as goal

abbrev pub invariant-loop-place : goal.invariant-loop-place
invariant-loop-place l = l.set ≡ mentioned_with (take l.place-index l.resolved.places) l.variable
