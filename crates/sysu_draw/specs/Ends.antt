-- How a run ends.
-- old, new: the outside before and after
use Rattle.std.specs.Prelude.{ℕ, Bool, true, false, List, [], ◌∷◌, codes}
use Rattle.std.specs.Str.{bytes_eq}
use Rattle.su_io.specs.declared.status.Status.{Status}
use Rattle.su_io.specs.Moments.{Moment}
use Rattle.su_io.specs.Programs.{TellsOfFile, UsageEnds}
use Rattle.sysu_draw.specs.Replies.{text_limit, usage_line, IsReplyTo}

-- how a run on a file ends
abbrev pub DrawingEnds : Bool → List ℕ → Moment → Moment → Status → Type 0
DrawingEnds kept path old new status = TellsOfFile path text_limit (IsReplyTo kept path old.files) old new status

-- how a run on a word and a file ends: the word is `--kept`, or the call is another one
abbrev pub FlagEnds : Bool → List ℕ → Moment → Moment → Status → Type 0
FlagEnds true path old new status = DrawingEnds true path old new status
FlagEnds false path old new status = UsageEnds usage_line old new status

-- the word that asks for kept rows alone
abbrev pub asks_kept : List ℕ → Bool
asks_kept word = bytes_eq word (codes "--kept")

-- what a run comes to before the hand-over at the end, by its words
abbrev pub Comes : List (List ℕ) → Moment → Moment → Status → Type 0
Comes (path ∷ []) old new status = DrawingEnds false path old new status
Comes (flag ∷ path ∷ []) old new status = FlagEnds (asks_kept flag) path old new status
Comes words old new status = UsageEnds usage_line old new status
