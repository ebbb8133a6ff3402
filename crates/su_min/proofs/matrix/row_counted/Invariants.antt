use Rattle.std.proofs.Common.{◌≡◌, length}
use Rattle.su_min.specs.inside.Matrix.{AreKnown}
use Rattle.su_min.specs.inside.Rooms.{IsRoomOf}
use Rattle.su_min.specs.Reduction.{term_at}
use Rattle.su_min.proofs.MatrixRows.{Tells}
use Rattle.su_min.proofs.matrix.row_counted.Given as goal

abbrev pub invariant-loop-i : goal.invariant-loop-i
invariant-loop-i g l = record {
  room : IsRoomOf l.all l.room;
  columns : length l.row ≡ l.i;
  tells : AreKnown l.terms l.marks → Tells (term_at l.terms l.j) l.terms l.row l.i;
}
