-- How an input is cut into pieces, statements or not.
-- piece: the parts up to a `;` or to the end; "from s to r": s is that, and then r; total: how many bytes the input has, whose end s is
use Rattle.std.specs.Prelude.{◌≡◌, ◌↔◌, ℕ, ◌+◌, true, List, [], ◌∷◌, length}
use Rattle.su_lex.specs.Blanks.{Gap}
use Rattle.su_lex.specs.Pieces.{Parts, after_mark}
use Rattle.su_stream.specs.declared.pieces.Piece.{Piece}

-- the piece from s to r
pub record IsPiece (total : ℕ) (s r : List ℕ) (piece : Piece) : Type 0 where
  pub parts : Parts s r
  pub start : piece.span.start + length s ≡ total
  pub end : piece.span.end + length r ≡ total
  pub blank : (piece.blank ≡ true) ↔ Gap s r

-- pieces from s to r, with a `;` behind each
abbrev pub AreCutOff : ℕ → List ℕ → List Piece → List ℕ → Type 0
AreCutOff total s [] r = s ≡ r
AreCutOff total s (piece ∷ pieces) r = (t : List ℕ) × IsPiece total s (59 ∷ t) piece × AreCutOff total t pieces r

-- the input is pieces with a `;` behind each, and the last one, which it ends
pub record Cuts (input : List ℕ) (pieces : List Piece) (last : Piece) : Type 0 where
  pub rest : List ℕ
  pub cut_off : AreCutOff (length input) (after_mark input) pieces rest
  pub ends : IsPiece (length input) rest [] last
