-- The first line at fault in a text that is read as lines.
-- at fault: it is in no form, or doesn't follow the lines before it
use Rattle.std.specs.Prelude.{◌≡◌, ◌⊎◌, ℕ, ◌&&◌, false, List, ◌∷◌, ◌++◌, None}
use Rattle.su_explained.specs.declared.pieces.Piece.{Piece}
use Rattle.su_explained.specs.declared.pieces.Cut.{Cut}
use Rattle.su_explained.specs.declared.states.State.{State}
use Rattle.su_explained.specs.declared.reading.Line.{Line}
use Rattle.su_explained.specs.declared.reading.Fault.{Fault}
use Rattle.su_explained.specs.declared.reading.Fault.TheVariants.{Line as AtLine, NoMemory}
use Rattle.su_explained.specs.Order.{may_end}
use Rattle.su_explained.specs.States.{at_start}
use Rattle.su_explained.specs.Pieces.{cut_of}
use Rattle.su_explained.specs.TextLines.{behind_words, AreRead, is_whole_cut, AreLinesOf}

-- the lines before this one are read, and it can't stand behind them; number: the line's
pub record IsLineAtFault (pieces : List Piece) (number : ℕ) : Type 0 where
  pub front : List Piece
  pub piece : Piece
  pub rest : List Piece
  pub are : pieces ≡ front ++ piece ∷ rest
  pub lines : List Line
  pub state : State
  pub read : AreRead at_start front lines state
  pub fault : behind_words state piece.words ≡ None
  pub is : number ≡ piece.number

-- all lines are read, and the text can't end there; number: that of the line behind the last one
pub record IsEndAtFault (cut : Cut) (number : ℕ) : Type 0 where
  pub lines : List Line
  pub state : State
  pub read : AreRead at_start cut.pieces lines state
  pub fault : (is_whole_cut cut && may_end state.last) ≡ false
  pub is : number ≡ cut.number

-- the first line at fault of the text has this number
abbrev pub IsAtFault : List ℕ → ℕ → Type 0
IsAtFault text number = IsLineAtFault (cut_of text).pieces number ⊎ IsEndAtFault (cut_of text) number

-- the fault is one of the text; want of memory is none
abbrev pub IsFaultOf : List ℕ → Fault → Type 0
IsFaultOf text (AtLine number) = IsAtFault text number × ((lines : List Line) → AreLinesOf text lines → ⊥)
IsFaultOf text NoMemory = ⊥
