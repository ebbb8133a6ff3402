use Rattle.std.proofs.Common.{◌≡◌, take, length}
use Rattle.su_reduce.specs.Sheets.{AreBelow, pick}
use Rattle.su_exec.proofs.closing.places_of.Given as goal

abbrev pub invariant-loop-y : goal.invariant-loop-y
invariant-loop-y l = record {
  below : AreBelow l.places.items (length l.xs);
  is : pick l.places.items l.xs ≡ take l.y-index l.ys;
}
