-- The pieces of an input that have ended, and the statements among them.
-- come: the bytes of the input so far
use Rattle.std.specs.Prelude.{◌-◌, ℕ, if◌then◌else◌, List, [], ◌∷◌, take, drop}
use Rattle.su_lex.specs.declared.spans.Span.{Span}
use Rattle.su_stream.specs.declared.pieces.Piece.{Piece}
use Rattle.su_stream.specs.Cuts.{Cuts}

-- the pieces that a `;` ends
abbrev pub AreEnded : List ℕ → List Piece → Type 0
AreEnded come pieces = (last : Piece) × Cuts come pieces last

-- where those stand that are statements
abbrev pub statements : List Piece → List Span
statements [] = []
statements (piece ∷ pieces) = if piece.blank then statements pieces else piece.span ∷ statements pieces

-- the bytes that stand there
abbrev pub text_at : List ℕ → Span → List ℕ
text_at come span = take (span.end - span.start) (drop span.start come)
