-- A text as the lines of an explanation or of a schema.
-- at fault: a line that can't stand behind those before it; where the text ends too soon, the line behind the last one
use Rattle.std.specs.Prelude.{◌≡◌, ℕ, ◌==◌, ◌&&◌, true, Bool, List, [], ◌∷◌, length, Option, Some}
use Rattle.std.specs.Option.{option_and_then}
use Rattle.su_explained.specs.declared.pieces.Piece.{Piece}
use Rattle.su_explained.specs.declared.pieces.Cut.{Cut}
use Rattle.su_explained.specs.declared.states.State.{State}
use Rattle.su_explained.specs.declared.reading.Line.{Line}
use Rattle.su_explained.specs.Kinds.{kind_in}
use Rattle.su_explained.specs.Order.{stepped, may_end}
use Rattle.su_explained.specs.States.{at_start}
use Rattle.su_explained.specs.Pieces.{cut_of}

-- what is known behind these words, where they may stand there
abbrev pub behind_words : State → List (List ℕ) → Option State
behind_words s words = option_and_then (λ kind. stepped s kind words) (kind_in words)

-- the line is one with these words
abbrev pub IsLineOf : Line → List (List ℕ) → Type 0
IsLineOf line words = (line.words ≡ words) × (kind_in words ≡ Some line.kind)

-- from one state to another the pieces are read as the lines
abbrev pub AreRead : State → List Piece → List Line → State → Type 0
AreRead s [] [] end = end ≡ s
AreRead s [] (line ∷ lines) end = ⊥
AreRead s (piece ∷ pieces) [] end = ⊥
AreRead s (piece ∷ pieces) (line ∷ lines) end = IsLineOf line piece.words × ((next : State) × (behind_words s piece.words ≡ Some next) × AreRead next pieces lines end)

-- the text ends with a line's end
abbrev pub is_whole_cut : Cut → Bool
is_whole_cut c = length c.words == 0 && length c.word == 0

-- the text is these lines
pub record AreLinesOf (text : List ℕ) (lines : List Line) : Type 0 where
  pub end : State
  pub read : AreRead at_start (cut_of text).pieces lines end
  pub ends : (is_whole_cut (cut_of text) && may_end end.last) ≡ true
