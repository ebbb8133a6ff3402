use Rattle.std.proofs.Common.{◌≡◌, ◌<◌, ℕ, [], length, get_or}
use Rattle.su_min.specs.Reduction.{term_at}
use Rattle.su_min.specs.inside.Matrix.{IsRowOf}
use Rattle.su_min.specs.inside.Rooms.{IsRoomOf}
use Rattle.su_min.proofs.matrix.rows_in_turn.Given as goal

abbrev pub invariant-loop-j : goal.invariant-loop-j
invariant-loop-j g l = record {
  room : IsRoomOf l.terms l.room;
  long : length l.rows ≡ l.j;
  rows : (k : ℕ) → k < l.j → IsRowOf (term_at l.terms k) l.terms (get_or l.rows k []);
}
