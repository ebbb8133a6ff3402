-- How a talk stands behind one event more.
use Rattle.std.proofs.Common.{◌≡◌, ◌++◌, ◌||◌, ◌∙◌, ℕ, Bool, true, false, List, [], ◌∷◌, Option, refl, ap, sym, subst, append_assoc, append-nil}
use Rattle.su_io.specs.declared.files.File.{File}
use Rattle.su_stream.specs.declared.pieces.Piece.{Piece}
use Rattle.su_stream.specs.Ended.{AreEnded}
use Rattle.su_state.specs.DatabaseValue.{DatabaseValue}
use Rattle.su_changes.proofs.Leading.{LeadTo-self, LeadTo-then}
use Rattle.su_talk.specs.declared.closes.Close.TheVariants.{WriteFault, KeepFault}
use Rattle.su_talk.specs.declared.talking.Talk.{Talk}
use Rattle.su_talk.specs.Entries.{Entry, piece_of, pieces_of, after, refuses, some_refuses, text_of, texts_from}
use Rattle.su_talk.specs.Events.{Event, bytes_of, come_of, text_in, told_of, kept_behind, kept_of, is_end, is_over, is_at_fault}
use Rattle.su_talk.specs.Events.Event.{Asked, Came, Kept, NotKept, Told, NotTold}
use Rattle.su_talk.specs.Keeping.{IsSame}
use Rattle.su_talk.specs.Statements.{Fits, BeginsWith, AreFirst}
use Rattle.su_talk.specs.Talked.{AreAnswered, IsSound, AtEachMoment, IsTalked}
use Rattle.su_talk.specs.inside.Groups.{keeping, telling, IsEmpty}
use Rattle.su_talk.specs.inside.Turns.{answered_after, TakesUp, IsAt}
use Rattle.su_talk.proofs.Entries.{pieces_of-push, answered_after-push, some_refuses-push, texts_from-push, Answered-push, Answered-more}
use Rattle.su_talk.proofs.Events.{come_of-push, told_of-push, kept_of-push, is_over-push, is_at_fault-push, last_same, or-false}
use Rattle.su_talk.proofs.Moments.{moments_push, moment_now}
use Rattle.su_talk.proofs.Pieces.{fits_push, first_more}

-- the same database
pub IsSame-self : (db : DatabaseValue) → IsSame db db
IsSame-self db = record { schema = refl; rows = LeadTo-self db }

pub IsSame-then : (a b c : DatabaseValue) → IsSame a b → IsSame b c → IsSame a c
IsSame-then a b c first second = record { schema = first.schema ∙ second.schema; rows = LeadTo-then a b c [] [] first.rows second.rows }

-- what a moment is by, beside the events themselves
module _ (frames : Bool) (files : Option (List File)) (first : DatabaseValue) where
  -- these entries were told, the next ones are kept besides, and the last of them left the database
  pub record Stands (events : List Event) (told next : List Entry) (db : DatabaseValue) : Type 0 where
    pub answered : AreAnswered frames files first events (told ++ next) db
    pub told_is : told_of events ≡ texts_from frames 0 told
    pub kept : IsSame (kept_of first events) db
    pub no_fault : is_at_fault events ≡ false
    pub sound : AtEachMoment (IsSound frames files first) events

  -- an event by which nothing came
  module _ (events : List Event) (e : Event) (none : bytes_of e ≡ []) (going : is_end e ≡ false) where
    pub same_come : come_of (events ++ e ∷ []) ≡ come_of events
    same_come = come_of-push events e ∙ ap (λ (l : List ℕ). come_of events ++ l) none ∙ append-nil (come_of events)

    pub same_over : is_over (events ++ e ∷ []) ≡ is_over events
    same_over = is_over-push events e ∙ ap (λ (b : Bool). is_over events || b) going ∙ or-false (is_over events)

    pub same_answered : (entries : List Entry) (db : DatabaseValue) → AreAnswered frames files first events entries db → AreAnswered frames files first (events ++ e ∷ []) entries db
    same_answered entries db is = record {
      pieces = rw (same_come, same_over) is.pieces;
      answered = rw same_come is.answered;
    }

  not_asked : (events before : List Event) (e : Event) → (e ≡ Asked → ⊥) → events ++ e ∷ [] ≡ before ++ Asked ∷ [] → ⊥
  not_asked events before e other same = other (last_same events before e Asked same)

  -- an event that changes nothing of it
  module _ (events : List Event) (e : Event) (none : bytes_of e ≡ []) (going : is_end e ≡ false) (untold : text_in e ≡ []) (unkept : (db : DatabaseValue) → kept_behind db e ≡ db) (other : e ≡ Asked → ⊥) where
    pub sound_same : IsSound frames files first events → IsSound frames files first (events ++ e ∷ [])
    sound_same is = record {
      told = is.told;
      told_is = told_of-push events e ∙ ap (λ (l : List ℕ). told_of events ++ l) untold ∙ append-nil (told_of events) ∙ is.told_is;
      next = is.next;
      last = is.last;
      answered = same_answered events e none going (is.told ++ is.next) is.last is.answered;
      kept = subst (λ (db : DatabaseValue). IsSame db is.last) (sym (kept_of-push first events e ∙ unkept (kept_of first events))) is.kept;
      up_to_date = λ before same. absurd (not_asked events before e other same);
    }

    pub moments_same : AtEachMoment (IsSound frames files first) events → AtEachMoment (IsSound frames files first) (events ++ e ∷ [])
    moments_same each = moments_push (IsSound frames files first) events e each (sound_same (moment_now (IsSound frames files first) events each))

  -- nothing is kept, told or asked by it: how it is where input came, or more was asked for
  module _ (events : List Event) (told : List Entry) (db : DatabaseValue) (is : Stands events told [] db) where
    told_all : AreAnswered frames files first events told db
    told_all = rw (append-nil told) at is.answered

    -- more was asked for, and each piece that has ended was told
    pub asked_step : AreEnded (come_of events) (pieces_of told) → is_over events ≡ false → Stands (events ++ Asked ∷ []) told [] db
    asked_step ended going =
        let told_is : told_of (events ++ Asked ∷ []) ≡ texts_from frames 0 told = told_of-push events Asked ∙ append-nil (told_of events) ∙ is.told_is in
        let kept : IsSame (kept_of first (events ++ Asked ∷ [])) db = subst (λ (d : DatabaseValue). IsSame d db) (sym (kept_of-push first events Asked)) is.kept in
        let answered : AreAnswered frames files first (events ++ Asked ∷ []) (told ++ []) db = same_answered events Asked refl refl (told ++ []) db is.answered in
        record {
          answered = answered;
          told_is = told_is;
          kept = kept;
          no_fault = is_at_fault-push events Asked ∙ or-false (is_at_fault events) ∙ is.no_fault;
          sound = moments_push (IsSound frames files first) events Asked is.sound (record {
            told = told;
            told_is = told_is;
            next = [];
            last = db;
            answered = answered;
            kept = kept;
            up_to_date = λ before same. (refl, rw (same_come events Asked refl refl) ended, same_over events Asked refl refl ∙ going);
          });
        }

    -- bytes came, or the end of the input
    pub came_step : (bytes : List ℕ) → is_over events ≡ false → Stands (events ++ Came bytes ∷ []) told [] db
    came_step bytes going =
        let e = Came bytes in
        let told_is : told_of (events ++ e ∷ []) ≡ texts_from frames 0 told = told_of-push events e ∙ append-nil (told_of events) ∙ is.told_is in
        let kept : IsSame (kept_of first (events ++ e ∷ [])) db = subst (λ (d : DatabaseValue). IsSame d db) (sym (kept_of-push first events e)) is.kept in
        let pieces : AreFirst (come_of events) false (pieces_of told) = rw (← going) told_all.pieces in
        let all : AreAnswered frames files first (events ++ e ∷ []) told db = record {
          pieces = rw (come_of-push events e) (first_more (come_of events) bytes (is_over (events ++ e ∷ [])) (pieces_of told) pieces);
          answered = rw (come_of-push events e) (Answered-more frames files (come_of events) bytes told first db pieces.fit told_all.answered);
        } in
        let answered : AreAnswered frames files first (events ++ e ∷ []) (told ++ []) db = rw (append-nil told) all in
        record {
          answered = answered;
          told_is = told_is;
          kept = kept;
          no_fault = is_at_fault-push events e ∙ or-false (is_at_fault events) ∙ is.no_fault;
          sound = moments_push (IsSound frames files first) events e is.sound (record {
            told = told;
            told_is = told_is;
            next = [];
            last = db;
            answered = answered;
            kept = kept;
            up_to_date = λ before same. absurd (not_asked events before e (λ x. absurd cc) same);
          });
        }

  -- the next entries are told
  pub tell_step : (events : List Event) (told next : List Entry) (db : DatabaseValue) (replies : List ℕ) → Stands events told next db → told_of events ++ replies ≡ texts_from frames 0 (told ++ next)
      → Stands (events ++ telling replies) (told ++ next) [] db
  tell_step events told next db [] is text = rw (append-nil events) (record {
    answered = rw (append-nil (told ++ next)) is.answered;
    told_is = sym (append-nil (told_of events)) ∙ text;
    kept = is.kept;
    no_fault = is.no_fault;
    sound = is.sound;
  })
  tell_step events told next db (b ∷ bs) is text =
      let e = Told (b ∷ bs) in
      let told_is : told_of (events ++ e ∷ []) ≡ texts_from frames 0 (told ++ next) = told_of-push events e ∙ text in
      let kept : IsSame (kept_of first (events ++ e ∷ [])) db = subst (λ (d : DatabaseValue). IsSame d db) (sym (kept_of-push first events e)) is.kept in
      let answered : AreAnswered frames files first (events ++ e ∷ []) ((told ++ next) ++ []) db = rw (append-nil (told ++ next)) (same_answered events e refl refl (told ++ next) db is.answered) in
      record {
        answered = answered;
        told_is = told_is;
        kept = kept;
        no_fault = is_at_fault-push events e ∙ or-false (is_at_fault events) ∙ is.no_fault;
        sound = moments_push (IsSound frames files first) events e is.sound (record {
          told = told ++ next;
          told_is = told_is;
          next = [];
          last = db;
          answered = answered;
          kept = kept;
          up_to_date = λ before same. absurd (not_asked events before e (λ x. absurd cc) same);
        });
      }

  -- the database behind the next entries is kept
  pub keep_step : (events : List Event) (told next : List Entry) (db : DatabaseValue) → told_of events ≡ texts_from frames 0 told → AreAnswered frames files first events (told ++ next) db
      → is_at_fault events ≡ false → AtEachMoment (IsSound frames files first) events → Stands (events ++ Kept db ∷ []) told next db
  keep_step events told next db is answers no_fault sound =
      let e = Kept db in
      let told_is : told_of (events ++ e ∷ []) ≡ texts_from frames 0 told = told_of-push events e ∙ append-nil (told_of events) ∙ is in
      let kept : IsSame (kept_of first (events ++ e ∷ [])) db = subst (λ (d : DatabaseValue). IsSame d db) (sym (kept_of-push first events e)) (IsSame-self db) in
      let answered : AreAnswered frames files first (events ++ e ∷ []) (told ++ next) db = same_answered events e refl refl (told ++ next) db answers in
      record {
        answered = answered;
        told_is = told_is;
        kept = kept;
        no_fault = is_at_fault-push events e ∙ or-false (is_at_fault events) ∙ no_fault;
        sound = moments_push (IsSound frames files first) events e sound (record {
          told = told;
          told_is = told_is;
          next = next;
          last = db;
          answered = answered;
          kept = kept;
          up_to_date = λ before same. absurd (not_asked events before e (λ x. absurd cc) same);
        });
      }

-- a talk whose group is closed
module _ (files : Option (List File)) (first : DatabaseValue) (events : List Event) (pieces : List Piece) (talk : Talk) where
  -- all is told
  pub settle : (at : IsAt files first events pieces talk) → IsEmpty talk.group → Stands talk.manner.frames files first events (at.told ++ at.held) [] talk.session
  settle at empty = record {
    answered = rw (append-nil (at.told ++ at.held)) at.answered;
    told_is = sym (append-nil (told_of events)) ∙ ap (λ (l : List ℕ). told_of events ++ l) (sym empty.replies) ∙ at.text;
    kept = at.same empty.unchanged;
    no_fault = at.no_fault;
    sound = at.sound;
  }

  -- and so it stands
  pub settled : (told : List Entry) → Stands talk.manner.frames files first events told [] talk.session → pieces_of told ≡ pieces → talk.count ≡ answered_after 0 told → talk.refused ≡ some_refuses told
      → talk.group.replies.items ≡ [] → IsAt files first events pieces talk
  settled told is are count refused none = record {
    told = told;
    held = [];
    pieces_are = rw (append-nil told) are;
    answered = is.answered;
    count = rw (append-nil told) count;
    refused = rw (append-nil told) refused;
    told_is = is.told_is;
    text = rw (append-nil told) (ap (λ (l : List ℕ). told_of events ++ l) none ∙ append-nil (told_of events) ∙ is.told_is);
    same = λ _. is.kept;
    no_fault = is.no_fault;
    sound = is.sound;
  }

  -- what happens as its group is closed
  kept_by : (changed : Bool) → talk.group.changed ≡ changed → (at : IsAt files first events pieces talk) → Stands talk.manner.frames files first (events ++ keeping changed talk.session) at.told at.held talk.session
  kept_by true e at = keep_step talk.manner.frames files first events at.told at.held talk.session at.told_is at.answered at.no_fault at.sound
  kept_by false e at = rw (append-nil events) (record { answered = at.answered; told_is = at.told_is; kept = at.same e; no_fault = at.no_fault; sound = at.sound })

  told_behind : (changed : Bool) → told_of (events ++ keeping changed talk.session) ≡ told_of events
  told_behind true = told_of-push events (Kept talk.session) ∙ append-nil (told_of events)
  told_behind false = ap told_of (append-nil events)

  pub kept_now : (at : IsAt files first events pieces talk) → Stands talk.manner.frames files first (events ++ keeping talk.group.changed talk.session) at.told at.held talk.session
  kept_now at = kept_by talk.group.changed refl at

  pub closed_now : (at : IsAt files first events pieces talk)
      → Stands talk.manner.frames files first (events ++ (keeping talk.group.changed talk.session ++ telling talk.group.replies.items)) (at.told ++ at.held) [] talk.session
  closed_now at =
      let mid = events ++ keeping talk.group.changed talk.session in
      rw (← append_assoc events (keeping talk.group.changed talk.session) (telling talk.group.replies.items))
      (tell_step talk.manner.frames files first mid at.told at.held talk.session talk.group.replies.items (kept_now at)
      (ap (λ (l : List ℕ). l ++ talk.group.replies.items) (told_behind talk.group.changed) ∙ at.text))

  -- the commit fails, or the hand-over
  pub fails_to_keep : IsAt files first events pieces talk → IsTalked talk.manner.frames files first (events ++ NotKept talk.session ∷ []) KeepFault
  fails_to_keep at = record {
    sound = moments_same talk.manner.frames files first events (NotKept talk.session) refl refl refl (λ d. refl) (λ x. absurd cc) at.sound;
    ends = record {
      db = talk.session;
      ends = (events, refl, at.no_fault);
      told = at.told;
      told_is = told_of-push events (NotKept talk.session) ∙ append-nil (told_of events) ∙ at.told_is;
      next = at.held;
      answered = same_answered talk.manner.frames files first events (NotKept talk.session) refl refl (at.told ++ at.held) talk.session at.answered;
    };
  }

  pub fails_to_tell : IsAt files first events pieces talk
      → IsTalked talk.manner.frames files first (events ++ (keeping talk.group.changed talk.session ++ NotTold talk.group.replies.items ∷ [])) WriteFault
  fails_to_tell at =
      let is = kept_now at in
      let mid = events ++ keeping talk.group.changed talk.session in
      let text = talk.group.replies.items in
      let e = NotTold text in
      rw (← append_assoc events (keeping talk.group.changed talk.session) (e ∷ [])) (record {
        sound = moments_same talk.manner.frames files first mid e refl refl refl (λ d. refl) (λ x. absurd cc) is.sound;
        ends = record {
          text = text;
          ends = (mid, refl, is.no_fault);
          entries = at.told ++ at.held;
          text_is = ap (λ (l : List ℕ). l ++ text) (told_of-push mid e ∙ append-nil (told_of mid) ∙ told_behind talk.group.changed) ∙ at.text;
          last = talk.session;
          answered = same_answered talk.manner.frames files first mid e refl refl (at.told ++ at.held) talk.session is.answered;
          kept = subst (λ (d : DatabaseValue). IsSame d talk.session) (sym (kept_of-push first mid e)) is.kept;
        };
      })

-- a piece is taken up
module _ (files : Option (List File)) (first : DatabaseValue) (events : List Event) (pieces : List Piece) (piece : Piece) (old new : Talk)
    (at : IsAt files first events pieces old) (fits : Fits (come_of events) piece) (front : BeginsWith (come_of events) (is_over events) (pieces ++ piece ∷ [])) (up : TakesUp files (come_of events) piece old new) where
  entries_more : (at.told ++ at.held) ++ up.entry ∷ [] ≡ at.told ++ (at.held ++ up.entry ∷ [])
  entries_more = append_assoc at.told at.held (up.entry ∷ [])

  pieces_more : pieces_of ((at.told ++ at.held) ++ up.entry ∷ []) ≡ pieces ++ piece ∷ []
  pieces_more =
      pieces_of-push (at.told ++ at.held) up.entry
      ∙ ap (λ (l : List Piece). l ++ piece_of up.entry ∷ []) at.pieces_are
      ∙ ap (λ (p : Piece). pieces ++ p ∷ []) up.is_of

  manner_same : new.manner ≡ old.manner
  manner_same = ap (λ (t : Talk). t.manner) up.rest

  text_more : told_of events ++ new.group.replies.items ≡ texts_from old.manner.frames 0 ((at.told ++ at.held) ++ up.entry ∷ [])
  text_more =
      ap (λ (l : List ℕ). told_of events ++ l) up.text
      ∙ sym (append_assoc (told_of events) old.group.replies.items (text_of old.manner.frames old.count up.entry))
      ∙ ap (λ (l : List ℕ). l ++ text_of old.manner.frames old.count up.entry) at.text
      ∙ ap (λ (k : ℕ). texts_from old.manner.frames 0 (at.told ++ at.held) ++ text_of old.manner.frames k up.entry) at.count
      ∙ sym (texts_from-push old.manner.frames 0 (at.told ++ at.held) up.entry)

  pub taken_up : IsAt files first events (pieces ++ piece ∷ []) new
  taken_up = record {
    told = at.told;
    held = at.held ++ up.entry ∷ [];
    pieces_are = rw (← entries_more) pieces_more;
    answered = rw (manner_same, ← entries_more) (record {
      pieces = rw pieces_more (record { fit = fits_push (come_of events) pieces piece (rw (← at.pieces_are) at.answered.pieces.fit) fits; front = front });
      answered = Answered-push old.manner.frames files (come_of events) (at.told ++ at.held) up.entry first old.session new.session at.answered.answered up.answered;
    });
    count = rw (← entries_more) (up.count ∙ ap (λ (k : ℕ). after k up.entry) at.count ∙ sym (answered_after-push 0 (at.told ++ at.held) up.entry));
    refused = rw (← entries_more) (up.refused ∙ ap (λ (b : Bool). b || refuses up.entry) at.refused ∙ sym (some_refuses-push (at.told ++ at.held) up.entry));
    told_is = rw manner_same at.told_is;
    text = rw (← entries_more) (rw manner_same text_more);
    same = λ unchanged. let s = up.same unchanged in IsSame-then (kept_of first events) old.session new.session (at.same s.0) s.1;
    no_fault = at.no_fault;
    sound = rw manner_same at.sound;
  }
