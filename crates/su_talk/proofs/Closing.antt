-- A group is closed, or that fails.
use Rattle.std.proofs.Common.{◌≡◌, ◌<◌, ◌-◌, ◌++◌, ◌||◌, ◌∙◌, ℕ, Bool, true, false, List, [], ◌∷◌, Option, Result, Ok, Err, OnOk, IfErr, refl, ap, sym, subst, append-nil}
use Rattle.su_io.specs.declared.files.File.{File}
use Rattle.su_io.specs.Ends.{Grew}
use Rattle.su_io.proofs.WrittenPieces.{Grew-trans}
use Rattle.su_stream.specs.declared.pieces.Piece.{Piece}
use Rattle.su_state.specs.DatabaseValue.{DatabaseValue}
use Rattle.su_changes.specs.declared.changes.Change.{Change}
use Rattle.su_changes.proofs.Extending.{IsExtension-then}
use Rattle.su_talk.specs.declared.closes.Close.{Close}
use Rattle.su_talk.specs.declared.closes.Close.TheVariants.{Done, SomeRefused, InputFault, WriteFault, TooLong, NoMemory, KeepFault}
use Rattle.su_talk.specs.declared.groups.Group.{Group}
use Rattle.su_talk.specs.declared.talking.Talk.{Talk}
use Rattle.su_talk.specs.Events.{Event, come_of, is_over}
use Rattle.su_talk.specs.Keeping.{LeadFromKept}
use Rattle.su_talk.specs.Statements.{BeginsWith, statement_limit}
use Rattle.su_talk.specs.Talked.{IsSettled, IsTalked}
use Rattle.su_talk.specs.inside.Groups.{keeping, telling, closing, FailsBy, FailsToClose, IsEmpty}
use Rattle.su_talk.specs.inside.Turns.{IsAt, LeadsOn, EndsPiece, Stops}
use Rattle.su_talk.proofs.Events.{come_of-append, is_over-append, or-false}
use Rattle.su_talk.proofs.Pieces.{front_now}
use Rattle.su_talk.proofs.Turns.{Stands, closed_now, settled, fails_to_keep, fails_to_tell}

-- nothing comes by it
come_keeping : (changed : Bool) (db : DatabaseValue) (replies : List ℕ) → come_of (keeping changed db ++ telling replies) ≡ []
come_keeping true db [] = refl
come_keeping true db (b ∷ bs) = refl
come_keeping false db [] = refl
come_keeping false db (b ∷ bs) = refl

over_keeping : (changed : Bool) (db : DatabaseValue) (replies : List ℕ) → is_over (keeping changed db ++ telling replies) ≡ false
over_keeping true db [] = refl
over_keeping true db (b ∷ bs) = refl
over_keeping false db [] = refl
over_keeping false db (b ∷ bs) = refl

pub come_closing : (group : Group) (db : DatabaseValue) → come_of (closing group db) ≡ []
come_closing group db = come_keeping group.changed db group.replies.items

pub over_closing : (group : Group) (db : DatabaseValue) → is_over (closing group db) ≡ false
over_closing group db = over_keeping group.changed db group.replies.items

-- what leads on from what is kept
pub leads_on : (Keeps Others : DatabaseValue → Type 0) (old new : Talk) → ((db : DatabaseValue) → Keeps db → Others db) → LeadsOn old new → LeadFromKept Keeps old.group.changes old.session → LeadFromKept Others new.group.changes new.session
leads_on Keeps Others old new same on (before, keeps, leads, extends) = (before, same before keeps, on.leads before leads, IsExtension-then before.schema old.session.schema new.session.schema extends on.extends)

pub leads_closed : (Keeps : DatabaseValue → Type 0) (old new : Talk) → new ≡ record old { group = new.group } → IsEmpty new.group → LeadFromKept Keeps [] old.session → LeadFromKept Keeps new.group.changes new.session
leads_closed Keeps old new rest empty leads =
    subst (λ (cs : List Change). LeadFromKept Keeps cs new.session) (sym empty.changes) (subst (λ (db : DatabaseValue). LeadFromKept Keeps [] db) (sym (ap (λ (t : Talk). t.session) rest)) leads)

module _ (files : Option (List File)) (first : DatabaseValue) (events : List Event) (pieces : List Piece) (old : Talk) (at : IsAt files first events pieces old) where
  pub come_same : come_of (events ++ closing old.group old.session) ≡ come_of events
  come_same = come_of-append events (closing old.group old.session) ∙ ap (λ (l : List ℕ). come_of events ++ l) (come_closing old.group old.session) ∙ append-nil (come_of events)

  pub over_same : is_over (events ++ closing old.group old.session) ≡ is_over events
  over_same = is_over-append events (closing old.group old.session) ∙ ap (λ (b : Bool). is_over events || b) (over_closing old.group old.session) ∙ or-false (is_over events)

  stands : Stands old.manner.frames files first (events ++ closing old.group old.session) (at.told ++ at.held) [] old.session
  stands = closed_now files first events pieces old at

  pub closed_settled : IsSettled old.manner.frames files first (events ++ closing old.group old.session) (at.told ++ at.held)
  closed_settled = record {
    told_is = stands.told_is;
    last = old.session;
    answered = rw (append-nil (at.told ++ at.held)) at stands.answered;
    kept = stands.kept;
    no_fault = stands.no_fault;
  }

  pub closed_at : (new : Talk) → new ≡ record old { group = new.group } → IsEmpty new.group → IsAt files first (events ++ closing old.group old.session) pieces new
  closed_at new rest empty =
      subst (λ (t : Talk). IsAt files first (events ++ closing old.group old.session) pieces t) (sym rest)
      (settled files first (events ++ closing old.group old.session) pieces (record old { group = new.group }) (at.told ++ at.held) stands at.pieces_are at.count at.refused empty.replies)

  -- it fails
  fails_by : (close : Close) (more : List Event) → FailsBy close old.group old.session more → IsTalked old.manner.frames files first (events ++ more) close
  fails_by Done more none = absurd none
  fails_by SomeRefused more none = absurd none
  fails_by InputFault more none = absurd none
  fails_by WriteFault more is = rw is (fails_to_tell files first events pieces old at)
  fails_by TooLong more none = absurd none
  fails_by NoMemory more none = absurd none
  fails_by KeepFault more is = rw is (fails_to_keep files first events pieces old at)

  pub stops_closing : (close : Close) (before now : Option (List Event)) → FailsToClose close old.group old.session before now → Stops old.manner.frames files first events before now close
  stops_closing close before now (more, by, grew) = (more, grew, fails_by close more by)

  -- the next piece is too long
  pub stops_long : (piece : Piece) (before now : Option (List Event)) → BeginsWith (come_of events) (is_over events) (pieces ++ piece ∷ []) → statement_limit < piece.span.end - piece.span.start
      → Grew before now (closing old.group old.session) → Stops old.manner.frames files first events before now TooLong
  stops_long piece before now front long grew = (
    closing old.group old.session,
    grew,
    record {
      sound = stands.sound;
      ends = record {
        told = at.told ++ at.held;
        settled = closed_settled;
        piece = piece;
        next = rw (come_same, at.pieces_are) (front_now (come_of events) (is_over events) (pieces ++ piece ∷ []) front);
        long = long;
      };
    },
  )

  -- memory is wanting
  pub stops_empty : (before now : Option (List Event)) → Grew before now [] → Stops old.manner.frames files first events before now NoMemory
  stops_empty before now grew = ([], grew, rw (append-nil events) (record { sound = at.sound; ends = at.no_fault }))

-- a piece was taken up, and then the group was closed, or that failed
pub ends_closing : (files : Option (List File)) (first : DatabaseValue) (events : List Event) (pieces : List Piece) (mid new : Talk) (r : Result (Unit {0}) Close) (frames : Bool) (before between now : Option (List Event))
    → IsAt files first events pieces mid → frames ≡ mid.manner.frames → new ≡ record mid { group = new.group } → IsEmpty new.group → Grew before between []
    → OnOk r (Grew between now (closing mid.group mid.session)) → IfErr r (λ close. FailsToClose close mid.group mid.session between now)
    → EndsPiece files first events pieces frames new before now r
ends_closing files first events pieces mid new (Ok x) frames before between now at same rest empty none grew failed =
    (closing mid.group mid.session, Grew-trans before between now [] (closing mid.group mid.session) none grew, come_closing mid.group mid.session, over_closing mid.group mid.session, closed_at files first events pieces mid at new rest empty)
ends_closing files first events pieces mid new (Err close) frames before between now at same rest empty none grew failed =
    let stop = stops_closing files first events pieces mid at close between now failed in
    (stop.0, Grew-trans before between now [] stop.0 none stop.1, rw same stop.2)
