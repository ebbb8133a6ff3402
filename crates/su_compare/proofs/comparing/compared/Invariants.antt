use Rattle.su_compare.specs.inside.Settlements.{HasRoomFor}
use Rattle.su_compare.proofs.PlainTerms.{AreSettled}
use Rattle.su_compare.proofs.comparing.compared.Given as goal

abbrev pub invariant-loop-i : goal.invariant-loop-i
invariant-loop-i l = record {
  room_for : HasRoomFor l.second l.room;
  settled : AreSettled l.schema l.first l.second l.i l.reasons;
}
