-- How the telling of what was found ends.
-- found: as in Replies; status: how the run ends
-- old, new: the outside before and after
-- No public contract cites this module.
use Rattle.std.specs.Prelude.{◌≡◌, ◌⊎◌, ℕ, List, Option}
use Rattle.su_io.specs.declared.status.Status.{Status}
use Rattle.su_io.specs.declared.status.Status.TheVariants.{NoMemory}
use Rattle.su_io.specs.Moments.{Moment}
use Rattle.su_io.specs.WrittenTexts.{IsTold}
use Rattle.su_faults.specs.declared.faults.Fault.{Fault}
use Rattle.sysu_place.specs.declared.words.Forms.{Forms}
use Rattle.sysu_place.specs.Replies.{reply_text, status_by, TellsOf}

-- it was told, or there was no memory for it
abbrev pub FoundEnds : Option Fault → Moment → Moment → Status → Type 0
FoundEnds found old new status = IsTold (reply_text found) (status_by found) old new status ⊎ ((status ≡ NoMemory) × (new ≡ old))

-- so of what is found of the text, or there was no memory to find it
abbrev pub ReplyEnds : Forms → List ℕ → Moment → Moment → Status → Type 0
ReplyEnds forms text old new status = ((found : Option Fault) × TellsOf forms text found × FoundEnds found old new status) ⊎ ((status ≡ NoMemory) × (new ≡ old))
