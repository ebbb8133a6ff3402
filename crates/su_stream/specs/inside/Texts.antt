-- The piece that an open text is, where it ends.
-- before: how many bytes stand before it in the input
-- No public contract cites this module.
use Rattle.std.specs.Prelude.{◌≡◌, ℕ, ◌+◌, List, length}
use Rattle.su_stream.specs.declared.states.State.{State}
use Rattle.su_stream.specs.declared.pieces.Piece.{Piece}
use Rattle.su_stream.specs.inside.Steps.{is_blank_piece}

-- its span, and whether it is blank
pub record IsText (state : State) (text : List ℕ) (before : ℕ) (piece : Piece) : Type 0 where
  pub start : piece.span.start ≡ before
  pub end : piece.span.end ≡ before + length text
  pub blank : piece.blank ≡ is_blank_piece state
