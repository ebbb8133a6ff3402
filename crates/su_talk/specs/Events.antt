-- What happens between a program and its company, in order.
-- asked: more input was asked for; came: these bytes came, none at the end of the input; kept: this database was kept, in one commit;
-- told: this text was handed over, whole; the others: it was tried, and failed
use Rattle.std.specs.Prelude.{ℕ, ◌||◌, Bool, true, false, List, [], ◌∷◌, ◌++◌}
use Rattle.su_state.specs.DatabaseValue.{DatabaseValue}

pub data Event : Type 0 where
  Asked : Event
  Came : List ℕ → Event
  NotRead : Event
  Kept : DatabaseValue → Event
  NotKept : DatabaseValue → Event
  Told : List ℕ → Event
  NotTold : List ℕ → Event

-- the bytes that came by one event
abbrev pub bytes_of : Event → List ℕ
bytes_of (Came bytes) = bytes
bytes_of _ = []

-- all bytes that came
abbrev pub come_of : List Event → List ℕ
come_of [] = []
come_of (event ∷ events) = bytes_of event ++ come_of events

-- the text that was handed over by one event
abbrev pub text_in : Event → List ℕ
text_in (Told text) = text
text_in _ = []

-- all texts that were handed over, one after another
abbrev pub told_of : List Event → List ℕ
told_of [] = []
told_of (event ∷ events) = text_in event ++ told_of events

-- what is kept behind one event
abbrev pub kept_behind : DatabaseValue → Event → DatabaseValue
kept_behind db (Kept next) = next
kept_behind db _ = db

-- what is kept, from this database on
abbrev pub kept_of : DatabaseValue → List Event → DatabaseValue
kept_of db [] = db
kept_of db (event ∷ events) = kept_of (kept_behind db event) events

-- the event tells the end of the input
abbrev pub is_end : Event → Bool
is_end (Came []) = true
is_end _ = false

-- the input has come to its end
abbrev pub is_over : List Event → Bool
is_over [] = false
is_over (event ∷ events) = is_end event || is_over events

-- the event is a failure
abbrev pub is_fault : Event → Bool
is_fault NotRead = true
is_fault (NotKept _) = true
is_fault (NotTold _) = true
is_fault _ = false

-- something failed
abbrev pub is_at_fault : List Event → Bool
is_at_fault [] = false
is_at_fault (event ∷ events) = is_fault event || is_at_fault events
