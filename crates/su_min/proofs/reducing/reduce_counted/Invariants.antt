use Rattle.su_min.specs.inside.Rooms.{IsRoomOf}
use Rattle.su_min.proofs.ReducedTerms.{AreReduced}
use Rattle.su_min.proofs.reducing.reduce_counted.Given as goal

abbrev pub invariant-loop-i : goal.invariant-loop-i
invariant-loop-i g l = record {
  reduced : AreReduced l.terms l.i l.kept l.covers;
  room : IsRoomOf l.terms l.room;
}
