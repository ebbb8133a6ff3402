use Rattle.su_min.proofs.RoomsForAll.{AreEnough}
use Rattle.su_min.proofs.searches.room_for.Given as goal

abbrev pub invariant-loop-term : goal.invariant-loop-term
invariant-loop-term l = AreEnough l.terms l.term-index l.rows l.symbols
