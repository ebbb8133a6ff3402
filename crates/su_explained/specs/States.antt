-- What is known behind the lines of a text so far.
-- state: the kind of the last line, and how many terms, kept terms, rows, sources and maximal objects there were
use Rattle.std.specs.Prelude.{ℕ, ◌+◌, ◌-◌, ◌==◌, ◌&&◌, nat_lt, if◌then◌else◌, Bool, Some, None}
use Rattle.su_explained.specs.declared.kinds.Kind.{Kind}
use Rattle.su_explained.specs.declared.kinds.Kind.TheVariants.{Term, Row, Kept, Sources, Maximal}
use Rattle.su_explained.specs.declared.states.State.{State}

-- no count is past 999
abbrev pub has_room_in : State → Bool
has_room_in s = nat_lt s.terms 1000 && nat_lt s.kept_terms 1000 && nat_lt s.rows 1000 && nat_lt s.sources 1000 && nat_lt s.maximal 1000

-- what is known behind a line of this kind with so many words
abbrev pub state_behind : State → Kind → ℕ → State
state_behind s Term n = record s { last = Some Term; terms = s.terms + 1; rows = 0; sources = 0 }
state_behind s Row n = record s { last = Some Row; rows = s.rows + 1 }
state_behind s Kept n = record s { last = Some Kept; kept = n - 3 }
state_behind s Sources n = record s { last = Some Sources; sources = s.sources + 1; kept_terms = (if s.sources == 0 then s.kept_terms + 1 else s.kept_terms) }
state_behind s Maximal n = record s { last = Some Maximal; maximal = s.maximal + 1 }
state_behind s kind n = record s { last = Some kind }

-- before the first line
abbrev pub at_start : State
at_start = record { last = None; terms = 0; kept_terms = 0; rows = 0; kept = 0; sources = 0; maximal = 0 }
