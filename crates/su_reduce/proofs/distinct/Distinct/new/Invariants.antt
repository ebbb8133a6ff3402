use Rattle.su_reduce.specs.Sheets.{AreBelow}
use Rattle.su_reduce.proofs.distinct.Distinct.new.Given as goal

abbrev pub invariant-loop-place : goal.invariant-loop-place
invariant-loop-place l = AreBelow l.places.items l.width
