-- How the writing of one line ends.
-- line: its bytes; came: the status where no write fails; status: how the run ends; old, new: the outside before and after
-- No public contract cites this module.
use Rattle.std.specs.Prelude.{◌≡◌, ◌⊎◌, ℕ, List}
use Rattle.su_io.specs.declared.status.Status.{Status}
use Rattle.su_io.specs.declared.status.Status.TheVariants.{NoMemory}
use Rattle.su_io.specs.Moments.{Moment}
use Rattle.su_io.specs.WrittenTexts.{IsTold}

-- it was told, or there was no memory for it
abbrev pub LineEnds : List ℕ → Status → Moment → Moment → Status → Type 0
LineEnds line came old new status = IsTold line came old new status ⊎ ((status ≡ NoMemory) × (new ≡ old))
