-- How a run ends.
-- old, new: the outside before and after
use Rattle.std.specs.Prelude.{ℕ, List, Option, Some, None}
use Rattle.su_io.specs.declared.status.Status.{Status}
use Rattle.su_io.specs.Moments.{Moment}
use Rattle.su_io.specs.Programs.{TellsOfFile, UsageEnds}
use Rattle.sysu_place.specs.Replies.{text_limit, IsReplyTo}
use Rattle.sysu_place.specs.Words.{Named, named, usage_line}

-- how a run on a file ends
abbrev pub PlaceEnds : Named → Moment → Moment → Status → Type 0
PlaceEnds names old new status = TellsOfFile names.path text_limit (IsReplyTo names old.files) old new status

-- what a run comes to before the hand-over at the end, by what its words name
abbrev pub ComesOf : Option Named → Moment → Moment → Status → Type 0
ComesOf (Some names) old new status = PlaceEnds names old new status
ComesOf None old new status = UsageEnds usage_line old new status

-- and by its words
abbrev pub Comes : List (List ℕ) → Moment → Moment → Status → Type 0
Comes words old new status = ComesOf (named words) old new status
