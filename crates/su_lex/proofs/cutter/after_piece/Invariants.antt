use Rattle.std.proofs.Common.{◌≤◌, length, List, ℕ}
use Rattle.su_lex.specs.Pieces.{Parts}
use Rattle.su_lex.proofs.cutter.after_piece.Given as goal

abbrev pub invariant-loop-rest : goal.invariant-loop-rest
invariant-loop-rest l = record {
  before : (r : List ℕ) → Parts l.rest r → Parts l.fn.bytes r;
  within : length l.rest ≤ length l.fn.bytes;
}

abbrev pub decreases-loop-rest : goal.decreases-loop-rest
decreases-loop-rest l = length l.rest
