-- How the telling of a reply ends.
-- kept: only kept rows are drawn; text: the bytes that are drawn; bytes: those of the reply; came: the status where no write fails; status: how the run ends
-- old, new: the outside before and after
-- No public contract cites this module.
use Rattle.std.specs.Prelude.{◌≡◌, ◌⊎◌, ℕ, Bool, List}
use Rattle.su_io.specs.declared.status.Status.{Status}
use Rattle.su_io.specs.declared.status.Status.TheVariants.{NoMemory}
use Rattle.su_io.specs.Moments.{Moment}
use Rattle.su_io.specs.WrittenTexts.{IsTold}
use Rattle.sysu_draw.specs.Replies.{IsReply}

-- the reply to the text was told
pub record TellsReply (kept : Bool) (text : List ℕ) (old new : Moment) (status : Status) : Type 0 where
  pub came : Status
  pub bytes : List ℕ
  pub reply : IsReply kept text came bytes
  pub told : IsTold bytes came old new status

-- or there was no memory for it
abbrev pub ReplyEnds : Bool → List ℕ → Moment → Moment → Status → Type 0
ReplyEnds kept text old new status = TellsReply kept text old new status ⊎ ((status ≡ NoMemory) × (new ≡ old))
