-- A room that serves the searches of several terms.
-- room: memory that a search needs, made once, for so many rows and symbols; none: it isn't made yet
-- term: a tableau with its kept rows and fold; i: a term by number, from 0
-- No public contract cites this module.
use Rattle.std.specs.Prelude.{◌<◌, ℕ, List, Option, length, IfSome}
use Rattle.su_map.specs.Rooms.{Space, IsRoomFor}
use Rattle.su_min.specs.Kept.{Minimised}
use Rattle.su_min.specs.Reduction.{term_at}

-- it has the rows and the symbols of each of the terms
abbrev pub IsRoomForAll : List Minimised → Space → Type 0
IsRoomForAll terms room = (i : ℕ) → i < length terms → IsRoomFor (term_at terms i).tableau room

-- where it is made already, it is one for all of the terms
abbrev pub IsRoomOf : List Minimised → Option Space → Type 0
IsRoomOf terms room = IfSome room (IsRoomForAll terms)
