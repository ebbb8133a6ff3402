use Rattle.std.proofs.Common.{◌≡◌, ◌≤◌, ◌++◌, length, List}
use Rattle.su_lex.specs.Pieces.{Pieces, PiecesAt}
use Rattle.su_lex.specs.declared.spans.Span.{Span}
use Rattle.su_lex.proofs.cutter.cut.Given as goal

abbrev pub invariant-loop-rest : goal.invariant-loop-rest
invariant-loop-rest l = record {
  within : length l.rest ≤ length l.bytes;
  before : (more : List Span) → PiecesAt (length l.bytes) l.rest more → Pieces l.bytes (l.spans ++ more);
  only : (all : List Span) → Pieces l.bytes all → (more : List Span) × (all ≡ l.spans ++ more) × PiecesAt (length l.bytes) l.rest more;
}

abbrev pub decreases-loop-rest : goal.decreases-loop-rest
decreases-loop-rest l = length l.rest
