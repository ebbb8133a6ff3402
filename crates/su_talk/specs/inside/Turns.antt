-- Where a talk stands, and how it goes on.
-- No public contract cites this module.
use Rattle.std.specs.Prelude.{◌≡◌, ℕ, ◌||◌, Bool, true, false, List, [], ◌∷◌, ◌++◌, Option, Result, Ok, Err}
use Rattle.su_io.specs.declared.files.File.{File as AFile}
use Rattle.su_io.specs.Ends.{Grew}
use Rattle.su_state.specs.DatabaseValue.{DatabaseValue}
use Rattle.su_stream.specs.declared.pieces.Piece.{Piece}
use Rattle.su_stream.specs.Coming.{HasCome}
use Rattle.su_stream.specs.Ended.{AreEnded}
use Rattle.su_changes.specs.Changes.{LeadTo}
use Rattle.su_changes.specs.Extensions.{IsExtension}
use Rattle.su_talk.specs.declared.closes.Close.{Close}
use Rattle.su_talk.specs.declared.talking.Talk.{Talk}
use Rattle.su_talk.specs.Answers.{AnswersEntry}
use Rattle.su_talk.specs.Entries.{Entry, piece_of, pieces_of, texts_from, text_of, after, refuses, some_refuses}
use Rattle.su_talk.specs.Events.{Event, come_of, told_of, kept_of, is_over, is_at_fault}
use Rattle.su_talk.specs.Keeping.{IsSame}
use Rattle.su_talk.specs.Statements.{BeginsWith}
use Rattle.su_talk.specs.Talked.{AreAnswered, IsSound, AtEachMoment, IsFinished, IsTalked}

-- how many statements were answered behind these
abbrev pub answered_after : ℕ → List Entry → ℕ
answered_after k [] = k
answered_after k (entry ∷ entries) = answered_after (after k entry) entries

-- one piece more was taken up, by this entry; its text is held back
pub record TakesUp (files : Option (List AFile)) (come : List ℕ) (piece : Piece) (old new : Talk) : Type 0 where
  pub entry : Entry
  pub is_of : piece_of entry ≡ piece
  pub rest : new ≡ record old { session = new.session; group = new.group; count = new.count; refused = new.refused }
  pub answered : AnswersEntry old.manner.frames files come old.session entry new.session
  pub count : new.count ≡ after old.count entry
  pub refused : new.refused ≡ (old.refused || refuses entry)
  pub text : new.group.replies.items ≡ old.group.replies.items ++ text_of old.manner.frames old.count entry
  pub same : new.group.changed ≡ false → (old.group.changed ≡ false) × IsSame old.session new.session

-- so in whatever has come
abbrev pub TakesUpNext : Option (List AFile) → Piece → Talk → Talk → Type 0
TakesUpNext files piece old new = (come : List ℕ) (given : List Piece) → HasCome come given old.stream → TakesUp files come piece old new

-- what was changed since leads on
pub record LeadsOn (old new : Talk) : Type 0 where
  pub rest : new ≡ record old { session = new.session; group = new.group; count = new.count; refused = new.refused }
  pub leads : (before : DatabaseValue) → LeadTo before old.group.changes old.session → LeadTo before new.group.changes new.session
  pub extends : IsExtension old.session.schema new.session.schema

-- these entries were taken up, and those whose texts aren't held back were told; what happened is sound at each moment
pub record IsAt (files : Option (List AFile)) (first : DatabaseValue) (events : List Event) (pieces : List Piece) (talk : Talk) : Type 0 where
  pub told : List Entry
  pub held : List Entry
  pub pieces_are : pieces_of (told ++ held) ≡ pieces
  pub answered : AreAnswered talk.manner.frames files first events (told ++ held) talk.session
  pub count : talk.count ≡ answered_after 0 (told ++ held)
  pub refused : talk.refused ≡ some_refuses (told ++ held)
  pub told_is : told_of events ≡ texts_from talk.manner.frames 0 told
  pub text : told_of events ++ talk.group.replies.items ≡ texts_from talk.manner.frames 0 (told ++ held)
  pub same : talk.group.changed ≡ false → IsSame (kept_of first events) talk.session
  pub no_fault : is_at_fault events ≡ false
  pub sound : AtEachMoment (IsSound talk.manner.frames files first) events

-- the piece is the next one of what came
pub record IsNext (events : List Event) (pieces : List Piece) (piece : Piece) (talk : Talk) : Type 0 where
  pub before : List Piece
  pub come : HasCome (come_of events) before talk.stream
  pub front : BeginsWith (come_of events) (is_over events) (pieces ++ piece ∷ [])

-- how the answering of a piece ends, behind what happened
abbrev pub EndsPiece : Option (List AFile) → DatabaseValue → List Event → List Piece → Bool → Talk → Option (List Event) → Option (List Event) → Result (Unit {0}) Close → Type 0
EndsPiece files first events pieces frames new before now (Ok _) = (more : List Event) × Grew before now more × (come_of more ≡ []) × (is_over more ≡ false) × IsAt files first (events ++ more) pieces new
EndsPiece files first events pieces frames new before now (Err close) = (more : List Event) × Grew before now more × IsTalked frames files first (events ++ more) close

abbrev pub AnswersPiece : Option (List AFile) → Piece → Talk → Talk → Option (List Event) → Option (List Event) → Result (Unit {0}) Close → Type 0
AnswersPiece files piece old new before now result =
    (first : DatabaseValue) (events : List Event) (pieces : List Piece) → IsAt files first events pieces old → IsNext events pieces piece old
    → EndsPiece files first events (pieces ++ piece ∷ []) old.manner.frames new before now result

-- between two pieces of an input that isn't over: all that the stream gave was taken up
pub record IsReady (files : Option (List AFile)) (first : DatabaseValue) (events : List Event) (pieces : List Piece) (talk : Talk) : Type 0 where
  pub at : IsAt files first events pieces talk
  pub come : HasCome (come_of events) pieces talk.stream
  pub going : is_over events ≡ false

-- it is so behind some more events
abbrev pub GoesOn : Option (List AFile) → DatabaseValue → List Event → Talk → Option (List Event) → Option (List Event) → Type 0
GoesOn files first events talk before now = (more : List Event) × (pieces : List Piece) × Grew before now more × IsReady files first (events ++ more) pieces talk

-- the talk ends behind some more events
abbrev pub Stops : Bool → Option (List AFile) → DatabaseValue → List Event → Option (List Event) → Option (List Event) → Close → Type 0
Stops frames files first events before now close = (more : List Event) × Grew before now more × IsTalked frames files first (events ++ more) close

-- how the answering of all pieces that have ended ends
abbrev pub EndsTurn : Option (List AFile) → DatabaseValue → List Event → Bool → Talk → Option (List Event) → Option (List Event) → Result (Unit {0}) Close → Type 0
EndsTurn files first events frames new before now (Ok _) = GoesOn files first events new before now
EndsTurn files first events frames new before now (Err close) = Stops frames files first events before now close

abbrev pub AnswersEnded : Option (List AFile) → Talk → Talk → Option (List Event) → Option (List Event) → Result (Unit {0}) Close → Type 0
AnswersEnded files old new before now result =
    (first : DatabaseValue) (events : List Event) (pieces : List Piece) → IsReady files first events pieces old → EndsTurn files first events old.manner.frames new before now result

-- behind the end of the input
pub record IsLast (files : Option (List AFile)) (first : DatabaseValue) (events : List Event) (pieces : List Piece) (talk : Talk) : Type 0 where
  pub at : IsAt files first events pieces talk
  pub come : HasCome (come_of events) pieces talk.stream
  pub over : is_over events ≡ true
  pub ended : AreEnded (come_of events) pieces

-- how the asking for input ends: some came, or none
abbrev pub EndsHearing : Option (List AFile) → DatabaseValue → List Event → Bool → Talk → Option (List Event) → Option (List Event) → Result Bool Close → Type 0
EndsHearing files first events frames new before now (Ok true) = GoesOn files first events new before now
EndsHearing files first events frames new before now (Ok false) = (more : List Event) × (pieces : List Piece) × Grew before now more × IsLast files first (events ++ more) pieces new
EndsHearing files first events frames new before now (Err close) = Stops frames files first events before now close

abbrev pub Hears : Option (List AFile) → Talk → Talk → Option (List Event) → Option (List Event) → Result Bool Close → Type 0
Hears files old new before now result =
    (first : DatabaseValue) (events : List Event) (pieces : List Piece) → IsReady files first events pieces old → EndsHearing files first events old.manner.frames new before now result

-- how a talk ends behind the end of the input
abbrev pub EndsLast : Option (List AFile) → DatabaseValue → List Event → Bool → Bool → Option (List Event) → Option (List Event) → Result (Unit {0}) Close → Type 0
EndsLast files first events frames refused before now (Ok _) =
    (more : List Event) × Grew before now more × AtEachMoment (IsSound frames files first) (events ++ more) × IsFinished frames files first (events ++ more) refused
EndsLast files first events frames refused before now (Err close) = Stops frames files first events before now close

abbrev pub Finishes : Option (List AFile) → Talk → Talk → Option (List Event) → Option (List Event) → Result (Unit {0}) Close → Type 0
Finishes files old new before now result =
    (first : DatabaseValue) (events : List Event) (pieces : List Piece) → IsLast files first events pieces old → EndsLast files first events old.manner.frames new.refused before now result

-- how a talk goes on up to its end
abbrev pub Talks : Option (List AFile) → Talk → Talk → Option (List Event) → Option (List Event) → Result (Unit {0}) Close → Type 0
Talks files old new before now result =
    (first : DatabaseValue) (events : List Event) (pieces : List Piece) → IsReady files first events pieces old → EndsLast files first events old.manner.frames new.refused before now result
