-- How a program hands over what it wrote, and how it ends so.
-- over: what the sink has handed over of what was written; came: the status that the program came to before the hand-over at its end
use Rattle.std.specs.Prelude.{◌≡◌, ◌⊎◌, [], ⊤}
use Rattle.su_io.specs.declared.status.Status.{Status}
use Rattle.su_io.specs.declared.status.Status.TheVariants.{ReadFault, WriteFault, TooLong}
use Rattle.su_io.specs.Causes.{Rose}
use Rattle.su_io.specs.Ends.{IsFrontOf}
use Rattle.su_io.specs.Moments.{Told, Moment}
use Rattle.su_io.specs.WrittenTexts.{Wrote}

-- all that was written is over
abbrev pub AllIsOver : Told → Type 0
AllIsOver told = told.over ≡ told.written

-- nothing was written or read; the sink may have handed over more
pub record OnlyHandsOver (old new : Moment) : Type 0 where
  pub rest : new ≡ record old { told = new.told; writes = new.writes }
  pub told : Wrote old.told new.told []

-- a hand-over: nothing is held back behind it
pub record HandsAllOver (old new : Moment) : Type 0 where
  pub only : OnlyHandsOver old new
  pub writes : new.writes ≡ old.writes
  pub all : AllIsOver new.told

-- a hand-over that failed
pub record FailsToHandOver (old new : Moment) : Type 0 where
  pub only : OnlyHandsOver old new
  pub rose : Rose old.writes new.writes

-- whether a program that came to this status hands over at its end: behind a file that was not read nothing is held back, and behind
-- a failed write nothing more is handed over
abbrev pub HandsOverAt : Status → Type 0
HandsOverAt ReadFault = ⊥
HandsOverAt WriteFault = ⊥
HandsOverAt TooLong = ⊥
HandsOverAt came = ⊤

-- the hand-over at the end: the status stays, or it is 5 where the hand-over fails
abbrev pub HandOverEnds : Status → Moment → Moment → Status → Type 0
HandOverEnds came old new status =
    ((status ≡ came) × (HandsOverAt came → ⊥) × (new ≡ old)) ⊎ (HandsOverAt came × (((status ≡ came) × HandsAllOver old new) ⊎ ((status ≡ WriteFault) × FailsToHandOver old new)))

-- the program came to its end with another status, and the hand-over there failed
pub record HandOverFailed (Comes : Moment → Status → Type 0) (new : Moment) : Type 0 where
  pub before : Moment
  pub came : Status
  pub comes : Comes before came
  pub due : HandsOverAt came
  pub failed : FailsToHandOver before new

-- how a program that comes to its end by these rules ends: so, and with 5 also where the hand-over failed
abbrev pub ComesOrFails : (Moment → Status → Type 0) → Moment → Status → Type 0
ComesOrFails Comes new WriteFault = Comes new WriteFault ⊎ HandOverFailed Comes new
ComesOrFails Comes new status = Comes new status

-- by the status of the program: a front of what was written is over, or all of it; where the program stops at a file, all of it if
-- all that was written before the program was
abbrev pub LeavesOver : Told → Told → Status → Type 0
LeavesOver old new WriteFault = IsFrontOf new.over new.written
LeavesOver old new ReadFault = AllIsOver old → AllIsOver new
LeavesOver old new TooLong = AllIsOver old → AllIsOver new
LeavesOver old new status = AllIsOver new

-- how a program ends: by its rules, and with all that was written handed over, or a front of it with 5
pub record EndsHandedOver (Comes : Moment → Moment → Status → Type 0) (old new : Moment) (status : Status) : Type 0 where
  pub ends : ComesOrFails (Comes old) new status
  pub over : LeavesOver old.told new.told status
