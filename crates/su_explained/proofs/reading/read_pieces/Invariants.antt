use Rattle.std.proofs.Common.{◌≡◌, ◌++◌}
use Rattle.std.specs.Vec.Iter.{into_iter_items}
use Rattle.su_explained.specs.States.{at_start}
use Rattle.su_explained.specs.TextLines.{AreRead}
use Rattle.su_explained.proofs.reading.read_pieces.Given as goal

abbrev pub invariant-loop-piece : goal.invariant-loop-piece
invariant-loop-piece l = record {
  rest : l.fn.pieces ≡ l.yielded ++ into_iter_items l.piece-iterator;
  read : AreRead at_start l.yielded l.lines l.state;
}
