use Rattle.std.proofs.Common.{◌≤◌}
use Rattle.su_map.specs.Rooms.{HasSizesOf, IsPreparedFor}
use Rattle.su_min.proofs.Greedy.{IsGreedy}
use Rattle.su_min.proofs.KeptRows.{Fits}
use Rattle.su_min.proofs.kept.kept_mask.Given as goal

abbrev pub invariant-loop-i : goal.invariant-loop-i
invariant-loop-i g l = record {
  sizes : HasSizesOf l.initial.room l.room;
  prepared : IsPreparedFor l.t l.all l.t l.all l.room;
  small : l.kept ≤ l.all;
  greedy : IsGreedy (Fits l.t) l.i l.kept;
}
