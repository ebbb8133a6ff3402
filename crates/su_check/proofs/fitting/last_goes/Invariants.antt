use Rattle.std.proofs.Common.{◌<◌, ℕ, [], None, get_or}
use Rattle.su_check.specs.Certificate.{lines_of}
use Rattle.su_check.specs.inside.Cells.{cell_at}
use Rattle.su_check.specs.SentRows.{numbered_row}
use Rattle.su_check.specs.inside.Boards.{Sends, Keeps}
use Rattle.su_check.proofs.fitting.last_goes.Given as goal

abbrev pub invariant-loop-column : goal.invariant-loop-column
invariant-loop-column l = record {
  done : (c : ℕ) → c < l.column → Sends (lines_of l.term) l.sent l.places (cell_at (numbered_row (lines_of l.term) l.row) c) (cell_at (numbered_row (lines_of l.term) l.target) c) (get_or (get_or l.board.numbers l.row []) c None);
  keeps : Keeps (lines_of l.term) l.board l.sent l.initial.places l.places;
}
