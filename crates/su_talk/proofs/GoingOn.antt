-- A talk goes on, piece after piece and turn after turn.
use Rattle.std.proofs.Common.{◌≡◌, ◌<◌, ◌-◌, ◌++◌, ◌||◌, ◌∙◌, ℕ, Bool, true, false, List, [], ◌∷◌, Option, Result, Ok, Err, refl, ap, sym, subst, append_assoc, append-nil, inr}
use Rattle.su_io.specs.declared.files.File.{File}
use Rattle.su_io.specs.Ends.{Grew}
use Rattle.su_io.proofs.WrittenPieces.{Grew-trans, Stays-refl}
use Rattle.su_stream.specs.declared.pieces.Piece.{Piece}
use Rattle.su_stream.specs.declared.streams.Stream.{Stream}
use Rattle.su_stream.specs.Coming.{HasCome, Gives, IsSameInput, Closes}
use Rattle.su_state.specs.DatabaseValue.{DatabaseValue}
use Rattle.su_talk.specs.declared.closes.Close.{Close}
use Rattle.su_talk.specs.declared.closes.Close.TheVariants.{TooLong, NoMemory}
use Rattle.su_talk.specs.declared.talking.Talk.{Talk}
use Rattle.su_talk.specs.Events.{Event, come_of, is_over}
use Rattle.su_talk.specs.Statements.{statement_limit}
use Rattle.su_talk.specs.inside.Groups.{closing, FailsToClose, IsEmpty}
use Rattle.su_talk.specs.inside.Turns.{IsAt, IsNext, AnswersPiece, IsReady, GoesOn, Stops, EndsHearing, Hears, EndsLast, Finishes}
use Rattle.su_talk.proofs.Closing.{closed_at, closed_settled, come_same, over_same, stops_closing, stops_empty}
use Rattle.su_talk.proofs.Events.{come_of-append, is_over-append, or-false}
use Rattle.su_talk.proofs.Pieces.{begins_given}

-- what stops a talk later stops it
pub stops_behind : (frames : Bool) (files : Option (List File)) (first : DatabaseValue) (events more : List Event) (before between now : Option (List Event)) (close : Close) → Grew before between more
    → Stops frames files first (events ++ more) between now close → Stops frames files first events before now close
stops_behind frames files first events more before between now close grew (later, grows, talked) =
    (more ++ later, Grew-trans before between now more later grew grows, rw (← append_assoc events more later) talked)

pub ends_behind : (files : Option (List File)) (first : DatabaseValue) (events more : List Event) (frames refused : Bool) (before between now : Option (List Event)) (r : Result (Unit {0}) Close) → Grew before between more
    → EndsLast files first (events ++ more) frames refused between now r → EndsLast files first events frames refused before now r
ends_behind files first events more frames refused before between now (Err close) grew stop = stops_behind frames files first events more before between now close grew stop
ends_behind files first events more frames refused before between now (Ok u) grew (later, grows, sound, finished) =
    (more ++ later, Grew-trans before between now more later grew grows, rw (← append_assoc events more later) sound, rw (← append_assoc events more later) finished)

-- memory is wanting
pub no_memory : (files : Option (List File)) (first : DatabaseValue) (events : List Event) (pieces : List Piece) (talk : Talk) (told : Option (List Event)) → IsReady files first events pieces talk → Stops talk.manner.frames files first events told told NoMemory
no_memory files first events pieces talk told ready = stops_empty files first events pieces talk ready.at told told (Stays-refl told)

-- it goes on from here
pub goes_on : (files : Option (List File)) (first : DatabaseValue) (events : List Event) (pieces : List Piece) (talk : Talk) (told : Option (List Event)) → IsReady files first events pieces talk → GoesOn files first events talk told told
goes_on files first events pieces talk told ready = ([], pieces, Stays-refl told, rw (append-nil events) ready)

pub goes_behind : (files : Option (List File)) (first : DatabaseValue) (events more : List Event) (talk : Talk) (before between now : Option (List Event)) → Grew before between more
    → GoesOn files first (events ++ more) talk between now → GoesOn files first events talk before now
goes_behind files first events more talk before between now grew (later, pieces, grows, ready) =
    (more ++ later, pieces, Grew-trans before between now more later grew grows, rw (← append_assoc events more later) ready)

-- in it there is nothing of the stream
other_stream : (files : Option (List File)) (first : DatabaseValue) (events : List Event) (pieces : List Piece) (talk : Talk) (stream : Stream) → IsAt files first events pieces talk → IsAt files first events pieces (record talk { stream = stream })
other_stream files first events pieces talk stream at = record {
  told = at.told;
  held = at.held;
  pieces_are = at.pieces_are;
  answered = at.answered;
  count = at.count;
  refused = at.refused;
  told_is = at.told_is;
  text = at.text;
  same = at.same;
  no_fault = at.no_fault;
  sound = at.sound;
}

-- the input goes on in another stream of the same input
pub same_ready : (files : Option (List File)) (first : DatabaseValue) (events : List Event) (pieces : List Piece) (talk : Talk) (stream : Stream) → IsSameInput talk.stream stream → IsReady files first events pieces talk
    → IsReady files first events pieces (record talk { stream = stream })
same_ready files first events pieces talk stream same ready = record { at = other_stream files first events pieces talk stream ready.at; come = same (come_of events) pieces ready.come; going = ready.going }

-- the next piece is answered
module _ (files : Option (List File)) (first : DatabaseValue) (events : List Event) (pieces : List Piece) (piece : Piece) (talk : Talk) (stream : Stream)
    (ready : IsReady files first events pieces talk) (gives : Gives piece talk.stream stream) where
  given_at : IsAt files first events pieces (record talk { stream = stream })
  given_at = other_stream files first events pieces talk stream ready.at

  given_come : HasCome (come_of events) (pieces ++ piece ∷ []) stream
  given_come = gives (come_of events) pieces ready.come

  given_next : IsNext events pieces piece (record talk { stream = stream })
  given_next = record {
    before = pieces ++ piece ∷ [];
    come = given_come;
    front = begins_given (come_of events) (is_over events) (pieces ++ piece ∷ []) stream given_come;
  }

  module _ (new : Talk) (before now : Option (List Event)) where
    pub answered_ready : (r : Unit {0}) → AnswersPiece files piece (record talk { stream = stream }) new before now (Ok r) → new.stream ≡ stream → GoesOn files first events new before now
    answered_ready r answers same =
        let (more, grew, none, going, at) = answers first events pieces given_at given_next in (
          more,
          pieces ++ piece ∷ [],
          grew,
          record {
            at = at;
            come = rw (come_of-append events more, none, append-nil (come_of events), same) given_come;
            going = is_over-append events more ∙ ap (λ (b : Bool). is_over events || b) going ∙ or-false (is_over events) ∙ ready.going;
          },
        )

    pub answered_stops : (close : Close) → AnswersPiece files piece (record talk { stream = stream }) new before now (Err close) → Stops talk.manner.frames files first events before now close
    answered_stops close answers = answers first events pieces given_at given_next

-- the group is closed behind the last of them
module _ (files : Option (List File)) (first : DatabaseValue) (events : List Event) (pieces : List Piece) (talk : Talk) (ready : IsReady files first events pieces talk) (before now : Option (List Event)) where
  pub ready_stops : (close : Close) → FailsToClose close talk.group talk.session before now → Stops talk.manner.frames files first events before now close
  ready_stops close fails = stops_closing files first events pieces talk ready.at close before now fails

  module _ (new : Talk) (rest : new ≡ record talk { group = new.group }) (empty : IsEmpty new.group) (grew : Grew before now (closing talk.group talk.session)) where
    abbrev behind : List Event
    behind = events ++ closing talk.group talk.session

    new_at : IsAt files first behind pieces new
    new_at = closed_at files first events pieces talk ready.at new rest empty

    new_come : HasCome (come_of behind) pieces new.stream
    new_come =
        subst (λ (s : Stream). HasCome (come_of behind) pieces s) (sym (ap (λ (t : Talk). t.stream) rest))
        (subst (λ (come : List ℕ). HasCome come pieces talk.stream) (sym (come_same files first events pieces talk ready.at)) ready.come)

    pub ready_closed : GoesOn files first events new before now
    ready_closed = (
      closing talk.group talk.session,
      pieces,
      grew,
      record {
        at = new_at;
        come = new_come;
        going = over_same files first events pieces talk ready.at ∙ ready.going;
      },
    )

    -- what is still open is too long
    pub ready_long : (last : Piece) → Closes new.stream last → statement_limit < last.span.end - last.span.start → Stops talk.manner.frames files first events before now TooLong
    ready_long last closes long =
        let is = closed_settled files first events pieces talk ready.at in (
          closing talk.group talk.session,
          grew,
          record {
            sound = rw (ap (λ (t : Talk). t.manner) rest) at new_at.sound;
            ends = record {
              told = ready.at.told ++ ready.at.held;
              settled = is;
              piece = last;
              next = rw ready.at.pieces_are (inr (pieces, last, refl, closes (come_of behind) pieces new_come));
              long = long;
            };
          },
        )

-- all that has ended was answered, and then more was asked for
pub turn_ends : (files others : Option (List File)) (first : DatabaseValue) (events : List Event) (mid new : Talk) (frames : Bool) (before between now : Option (List Event)) (r : Result Bool Close)
    → others ≡ files → mid.manner.frames ≡ frames → GoesOn files first events mid before between → Hears others mid new between now r → EndsHearing files first events frames new before now r
turn_ends files others first events mid new frames before between now (Ok true) same manner (more, pieces, grew, ready) hears =
    goes_behind files first events more new before between now grew (subst (λ (fs : Option (List File)). Hears fs mid new between now (Ok true)) same hears first (events ++ more) pieces ready)
turn_ends files others first events mid new frames before between now (Ok false) same manner (more, pieces, grew, ready) hears =
    let (later, last, grows, is) = subst (λ (fs : Option (List File)). Hears fs mid new between now (Ok false)) same hears first (events ++ more) pieces ready in
    (more ++ later, last, Grew-trans before between now more later grew grows, rw (← append_assoc events more later) is)
turn_ends files others first events mid new frames before between now (Err close) same manner (more, pieces, grew, ready) hears =
    stops_behind frames files first events more before between now close grew
    (subst (λ (b : Bool). Stops b files first (events ++ more) between now close) manner (subst (λ (fs : Option (List File)). Hears fs mid new between now (Err close)) same hears first (events ++ more) pieces ready))

-- the input is over, and the talk was finished
pub finish_ends : (files others : Option (List File)) (first : DatabaseValue) (events : List Event) (mid new : Talk) (frames : Bool) (before between now : Option (List Event)) (r : Result (Unit {0}) Close)
    → others ≡ files → mid.manner.frames ≡ frames → EndsHearing files first events frames mid before between (Ok false) → Finishes others mid new between now r → EndsLast files first events frames new.refused before now r
finish_ends files others first events mid new frames before between now r same manner (more, pieces, grew, is) finishes =
    ends_behind files first events more frames new.refused before between now r grew
    (subst (λ (b : Bool). EndsLast files first (events ++ more) b new.refused between now r) manner (subst (λ (fs : Option (List File)). Finishes fs mid new between now r) same finishes first (events ++ more) pieces is))

pub no_memory_behind : (files : Option (List File)) (first : DatabaseValue) (events : List Event) (mid : Talk) (frames : Bool) (before now : Option (List Event)) → mid.manner.frames ≡ frames → GoesOn files first events mid before now → Stops frames files first events before now NoMemory
no_memory_behind files first events mid frames before now manner (more, pieces, grew, ready) =
    stops_behind frames files first events more before now now NoMemory grew (subst (λ (b : Bool). Stops b files first (events ++ more) now now NoMemory) manner (no_memory files first (events ++ more) pieces mid now ready))

-- some bytes came, or none
pub heard_more : (files : Option (List File)) (first : DatabaseValue) (events : List Event) (frames : Bool) (new : Talk) (before now : Option (List Event)) (some : Bool) → some ≡ true → EndsHearing files first events frames new before now (Ok some) → GoesOn files first events new before now
heard_more files first events frames new before now true same ends = ends
heard_more files first events frames new before now false same ends = absurd cc

pub heard_end : (files : Option (List File)) (first : DatabaseValue) (events : List Event) (frames : Bool) (new : Talk) (before now : Option (List Event)) (some : Bool) → some ≡ false → EndsHearing files first events frames new before now (Ok some) → EndsHearing files first events frames new before now (Ok false)
heard_end files first events frames new before now true same ends = absurd cc
heard_end files first events frames new before now false same ends = ends
