-- A talk: what is kept and told, held against what came.
-- first: the database that was opened; events: all that happened; front: those up to some moment; told: the entries whose texts were handed over
use Rattle.std.specs.Prelude.{◌≡◌, ◌<◌, ◌-◌, ℕ, Bool, true, false, List, [], ◌∷◌, ◌++◌, Option}
use Rattle.su_io.specs.declared.files.File.{File as AFile}
use Rattle.su_io.specs.Ends.{Grew}
use Rattle.su_state.specs.DatabaseValue.{DatabaseValue}
use Rattle.su_stream.specs.declared.pieces.Piece.{Piece}
use Rattle.su_stream.specs.Ended.{AreEnded}
use Rattle.su_talk.specs.declared.closes.Close.{Close}
use Rattle.su_talk.specs.declared.closes.Close.TheVariants.{Done, SomeRefused, InputFault, WriteFault, TooLong, NoMemory, KeepFault}
use Rattle.su_talk.specs.Answers.{Answered}
use Rattle.su_talk.specs.Entries.{Entry, pieces_of, texts_from, some_refuses}
use Rattle.su_talk.specs.Events.{Event, come_of, told_of, kept_of, is_over, is_at_fault}
use Rattle.su_talk.specs.Events.Event.{Asked, NotRead, NotKept, NotTold}
use Rattle.su_talk.specs.Keeping.{IsSame}
use Rattle.su_talk.specs.Statements.{AreFirst, AreFront, AreAll, statement_limit}

-- the entries are of the first pieces of what came, which are answered so and leave this database
pub record AreAnswered (frames : Bool) (files : Option (List AFile)) (first : DatabaseValue) (events : List Event) (entries : List Entry) (last : DatabaseValue) : Type 0 where
  pub pieces : AreFirst (come_of events) (is_over events) (pieces_of entries)
  pub answered : Answered frames files (come_of events) first entries last

-- At one moment. The texts of the first pieces were told; what is kept is the database behind these and the next ones:
-- no reply is told before what it changed is kept. Where more input was just asked for, each piece that has ended is answered, told and kept, and the input isn't over
pub record IsSound (frames : Bool) (files : Option (List AFile)) (first : DatabaseValue) (events : List Event) : Type 0 where
  pub told : List Entry
  pub told_is : told_of events ≡ texts_from frames 0 told
  pub next : List Entry
  pub last : DatabaseValue
  pub answered : AreAnswered frames files first events (told ++ next) last
  pub kept : IsSame (kept_of first events) last
  pub up_to_date : (before : List Event) → events ≡ before ++ Asked ∷ [] → (next ≡ []) × AreEnded (come_of events) (pieces_of told) × (is_over events ≡ false)

-- so at each moment
abbrev pub AtEachMoment : (List Event → Type 0) → List Event → Type 0
AtEachMoment P events = (front rest : List Event) → events ≡ front ++ rest → P front

-- the texts of these entries were told, and what they changed is kept; nothing failed
pub record IsSettled (frames : Bool) (files : Option (List AFile)) (first : DatabaseValue) (events : List Event) (told : List Entry) : Type 0 where
  pub told_is : told_of events ≡ texts_from frames 0 told
  pub last : DatabaseValue
  pub answered : AreAnswered frames files first events told last
  pub kept : IsSame (kept_of first events) last
  pub no_fault : is_at_fault events ≡ false

-- the input came to its end, and all its pieces were answered; some were refused or none
pub record IsFinished (frames : Bool) (files : Option (List AFile)) (first : DatabaseValue) (events : List Event) (refused : Bool) : Type 0 where
  pub over : is_over events ≡ true
  pub told : List Entry
  pub settled : IsSettled frames files first events told
  pub all : AreAll frames (come_of events) (pieces_of told)
  pub refused_is : some_refuses told ≡ refused

-- the next piece, which has ended or is still open, is too long; all before it were answered
pub record IsCutShort (frames : Bool) (files : Option (List AFile)) (first : DatabaseValue) (events : List Event) : Type 0 where
  pub told : List Entry
  pub settled : IsSettled frames files first events told
  pub piece : Piece
  pub next : AreFront (come_of events) (pieces_of told ++ piece ∷ [])
  pub long : statement_limit < piece.span.end - piece.span.start

-- the last event is this one, and nothing failed before it
abbrev pub EndsWith : List Event → Event → Type 0
EndsWith events last = (before : List Event) × (events ≡ before ++ last ∷ []) × (is_at_fault before ≡ false)

-- The hand-over of the next texts failed, which is the last event: what they tell is kept
pub record FailsToTell (frames : Bool) (files : Option (List AFile)) (first : DatabaseValue) (events : List Event) : Type 0 where
  pub text : List ℕ
  pub ends : EndsWith events (NotTold text)
  pub entries : List Entry
  pub text_is : told_of events ++ text ≡ texts_from frames 0 entries
  pub last : DatabaseValue
  pub answered : AreAnswered frames files first events entries last
  pub kept : IsSame (kept_of first events) last

-- The commit of the database behind the next statements failed, which is the last event: none of them was told
pub record FailsToKeep (frames : Bool) (files : Option (List AFile)) (first : DatabaseValue) (events : List Event) : Type 0 where
  pub db : DatabaseValue
  pub ends : EndsWith events (NotKept db)
  pub told : List Entry
  pub told_is : told_of events ≡ texts_from frames 0 told
  pub next : List Entry
  pub answered : AreAnswered frames files first events (told ++ next) db

-- by the status
abbrev pub Ends : Bool → Option (List AFile) → DatabaseValue → List Event → Close → Type 0
Ends frames files first events Done = IsFinished frames files first events false
Ends frames files first events SomeRefused = IsFinished frames files first events true
Ends frames files first events InputFault = EndsWith events NotRead
Ends frames files first events WriteFault = FailsToTell frames files first events
Ends frames files first events TooLong = IsCutShort frames files first events
Ends frames files first events NoMemory = is_at_fault events ≡ false
Ends frames files first events KeepFault = FailsToKeep frames files first events

-- all that happened, and how it ended
pub record IsTalked (frames : Bool) (files : Option (List AFile)) (first : DatabaseValue) (events : List Event) (close : Close) : Type 0 where
  pub sound : AtEachMoment (IsSound frames files first) events
  pub ends : Ends frames files first events close

-- what happened since is a talk
abbrev pub HasTalked : Bool → Option (List AFile) → DatabaseValue → Option (List Event) → Option (List Event) → Close → Type 0
HasTalked frames files first before now close = (events : List Event) × Grew before now events × IsTalked frames files first events close
