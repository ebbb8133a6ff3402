use Rattle.std.proofs.Common.{ℕ, ◌<◌}
use Rattle.su_tableau.specs.Mapping.{Maps}
use Rattle.su_compare.specs.Settled.{tab_at}
use Rattle.su_compare.specs.inside.Settlements.{HasRoomFor}
use Rattle.su_compare.proofs.settling.found_counted.Given as goal

abbrev pub invariant-loop-j : goal.invariant-loop-j
invariant-loop-j g l = record {
  room_for : HasRoomFor l.terms l.room;
  none : (i : ℕ) → i < l.j → ¬ Maps (tab_at l.terms i) l.c;
}
