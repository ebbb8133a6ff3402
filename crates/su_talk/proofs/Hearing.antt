-- More is asked for where all that has ended was told.
use Rattle.std.proofs.Common.{◌≡◌, ◌<◌, ◌++◌, ◌||◌, ◌∙◌, ℕ, Bool, true, false, List, [], ◌∷◌, Option, length, refl, ap, append_assoc, append-nil, arith}
use Rattle.su_io.specs.declared.files.File.{File}
use Rattle.su_stream.specs.declared.pieces.Piece.{Piece}
use Rattle.su_stream.specs.declared.streams.Stream.{Stream}
use Rattle.su_stream.specs.Coming.{Takes, IsUpToDate}
use Rattle.su_stream.specs.Ended.{AreEnded}
use Rattle.su_state.specs.DatabaseValue.{DatabaseValue}
use Rattle.su_talk.specs.declared.closes.Close.TheVariants.{InputFault, NoMemory}
use Rattle.su_talk.specs.declared.talking.Talk.{Talk}
use Rattle.su_talk.specs.Entries.{Entry, pieces_of}
use Rattle.su_talk.specs.Events.{Event, come_of, is_end, is_over}
use Rattle.su_talk.specs.Events.Event.{Asked, Came, NotRead}
use Rattle.su_talk.specs.Talked.{IsTalked}
use Rattle.su_talk.specs.inside.Groups.{IsEmpty}
use Rattle.su_talk.specs.inside.Turns.{IsAt, IsReady, IsLast}
use Rattle.su_talk.proofs.Events.{come_of-append, is_over-append, or-false}
use Rattle.su_talk.proofs.Turns.{Stands, settle, settled, asked_step, came_step, moments_same, same_over}

or-true : (a : Bool) → (a || true) ≡ true
or-true true = refl
or-true false = refl

no_end : (bytes : List ℕ) → 0 < length bytes → is_end (Came bytes) ≡ false
no_end [] some = absurd (omega (arith, some))
no_end (b ∷ bytes) some = refl

module _ (files : Option (List File)) (first : DatabaseValue) (events : List Event) (pieces : List Piece) (talk : Talk)
    (ready : IsReady files first events pieces talk) (empty : IsEmpty talk.group) (ended : IsUpToDate talk.stream) where
  abbrev told : List Entry
  told = ready.at.told ++ ready.at.held

  told_are : pieces_of told ≡ pieces
  told_are = ready.at.pieces_are

  are_ended : AreEnded (come_of events) pieces
  are_ended = ended (come_of events) pieces ready.come

  asked : Stands talk.manner.frames files first (events ++ Asked ∷ []) told [] talk.session
  asked = asked_step talk.manner.frames files first events told talk.session (settle files first events pieces talk ready.at empty) (rw told_are are_ended) ready.going

  -- input can't be read
  pub unread : IsTalked talk.manner.frames files first (events ++ Asked ∷ NotRead ∷ []) InputFault
  unread = rw (← append_assoc events (Asked ∷ []) (NotRead ∷ [])) (record {
    sound = moments_same talk.manner.frames files first (events ++ Asked ∷ []) NotRead refl refl refl (λ d. refl) (λ x. absurd cc) asked.sound;
    ends = (events ++ Asked ∷ [], refl, asked.no_fault);
  })

  module _ (bytes : List ℕ) where
    come_is : come_of (events ++ Asked ∷ Came bytes ∷ []) ≡ come_of events ++ bytes
    come_is = come_of-append events (Asked ∷ Came bytes ∷ []) ∙ ap (λ (l : List ℕ). come_of events ++ l) (append-nil bytes)

    over_is : is_over (events ++ Asked ∷ Came bytes ∷ []) ≡ is_end (Came bytes)
    over_is = is_over-append events (Asked ∷ Came bytes ∷ []) ∙ ap (λ (b : Bool). b || (is_end (Came bytes) || false)) ready.going ∙ or-false (is_end (Came bytes))

    came : Stands talk.manner.frames files first (events ++ Asked ∷ Came bytes ∷ []) told [] talk.session
    came = rw (← append_assoc events (Asked ∷ []) (Came bytes ∷ []))
        (came_step talk.manner.frames files first (events ++ Asked ∷ []) told talk.session asked bytes (same_over talk.manner.frames files first events Asked refl refl ∙ ready.going))

    -- no memory for them
    pub no_room : IsTalked talk.manner.frames files first (events ++ Asked ∷ Came bytes ∷ []) NoMemory
    no_room = record { sound = came.sound; ends = came.no_fault }

    module _ (stream : Stream) where
      heard : Talk
      heard = record talk { stream = stream }

      pub heard_at : IsAt files first (events ++ Asked ∷ Came bytes ∷ []) pieces (record talk { stream = stream })
      heard_at = settled files first (events ++ Asked ∷ Came bytes ∷ []) pieces (record talk { stream = stream }) told came told_are ready.at.count ready.at.refused empty.replies

      -- some bytes came
      pub heard_some : 0 < length bytes → Takes bytes talk.stream stream → IsReady files first (events ++ Asked ∷ Came bytes ∷ []) pieces (record talk { stream = stream })
      heard_some some takes = record {
        at = heard_at;
        come = rw come_is (takes (come_of events) pieces ready.come);
        going = over_is ∙ no_end bytes some;
      }

  -- none came
  pub heard_none : IsLast files first (events ++ Asked ∷ Came [] ∷ []) pieces talk
  heard_none =
      let come_same : come_of (events ++ Asked ∷ Came [] ∷ []) ≡ come_of events = come_is [] ∙ append-nil (come_of events) in
      record {
        at = heard_at [] talk.stream;
        come = rw come_same ready.come;
        over = over_is [];
        ended = rw come_same are_ended;
      }
