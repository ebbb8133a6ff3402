-- How the telling of a refused schema ends.
-- old, new: the outside before and after
-- No public contract cites this module.
use Rattle.std.specs.Prelude.{◌≡◌, ◌⊎◌, ℕ, List}
use Rattle.su_io.specs.declared.status.Status.{Status}
use Rattle.su_io.specs.declared.status.Status.TheVariants.{BadSchema, NoMemory}
use Rattle.su_io.specs.Moments.{Moment}
use Rattle.su_io.specs.WrittenTexts.{IsTold}
use Rattle.su_ddl.specs.declared.faults.DdlFault.{DdlFault}
use Rattle.su_show.specs.Refusals.{IsLineFor}

-- the fault's line was told, or there was no memory for it
abbrev pub RefusalEnds : DdlFault → Moment → Moment → Status → Type 0
RefusalEnds fault old new status = ((line : List ℕ) × IsLineFor fault line × IsTold line BadSchema old new status) ⊎ ((status ≡ NoMemory) × (new ≡ old))
