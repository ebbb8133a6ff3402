-- Which line may stand behind the lines before it, and what is known behind it.
-- An explanation: its query, its variables, its terms, how many there are. A term: its line, its rows, its head, its comparisons, its kept rows, its fold,
-- and the sources of each kept row or its cover. A schema: its definitions by kind, its maximal objects.
use Rattle.std.specs.Prelude.{ℕ, ◌&&◌, nat_lt, if◌then◌else◌, Bool, true, false, List, length, Option, Some, None}
use Rattle.su_explained.specs.declared.kinds.Kind.{Kind}
use Rattle.su_explained.specs.declared.kinds.Kind.TheVariants.{Query, Variables, Term, Row, Head, Compare, Kept, Fold, Sources, Covered, Count}
use Rattle.su_explained.specs.declared.states.State.{State}
use Rattle.su_explained.specs.Lines.{fits}
use Rattle.su_explained.specs.States.{has_room_in, state_behind}
use Rattle.su_explained.specs.Ranks.{rank_of, defines_behind, between_terms}

-- a line of this kind may stand behind one of that kind, or first
abbrev pub follows : State → Kind → Option Kind → Bool
follows s Query None = true
follows s Query (Some last) = false
follows s Variables (Some Query) = true
follows s Variables _ = false
follows s Term last = between_terms s last
follows s Count last = between_terms s last
follows s Row (Some Term) = true
follows s Row (Some Row) = true
follows s Row _ = false
follows s Head (Some Row) = true
follows s Head _ = false
follows s Compare (Some Head) = true
follows s Compare (Some Compare) = true
follows s Compare _ = false
follows s Kept (Some Head) = true
follows s Kept (Some Compare) = true
follows s Kept _ = false
follows s Fold (Some Kept) = true
follows s Fold _ = false
follows s Sources (Some Fold) = true
follows s Sources (Some Sources) = true
follows s Sources _ = false
follows s Covered (Some Fold) = true
follows s Covered _ = false
follows s kind last = defines_behind last kind

-- what is known behind a line, where it may stand there
abbrev pub stepped : State → Kind → List (List ℕ) → Option State
stepped s kind words = if has_room_in s && follows s kind s.last && fits s kind words then Some (state_behind s kind (length words)) else None

-- the text may end behind a line of this kind, or at the beginning
abbrev pub may_end : Option Kind → Bool
may_end None = true
may_end (Some Count) = true
may_end (Some kind) = nat_lt 0 (rank_of kind)
