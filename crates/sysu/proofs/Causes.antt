-- A fault of the outside is answered only where a count of faults rose: how a run ends says so, whatever its words ask for.
use Rattle.std.proofs.Common.{◌≡◌, ℕ, List, Option, Some, None, refl, sym, ap, subst, inl, inr}
use Rattle.su_io.specs.Causes.{Rose}
use Rattle.su_io.specs.declared.status.Status.{Status}
use Rattle.su_io.specs.declared.status.Status.TheVariants.{Done, SomeRefused, Usage, BadSchema, ReadFault, WriteFault, TooLong, NoMemory}
use Rattle.su_io.specs.HandOver.{HandsOverAt, ComesOrFails}
use Rattle.su_io.specs.Moments.{Moment}
use Rattle.su_io.specs.Programs.{ReadsAndTells, Ends, Tells}
use Rattle.sysu.specs.Statuses.{Comes}
use Rattle.sysu.specs.Words.{Named, named, checks}
use Rattle.sysu.proofs.OneBank.{Asks, for_bank, for_none, asked}

-- status 4 comes only where the shelf's count rose, status 5 where the sink's rose; with any other status the sink's stands
abbrev pub Caused : Moment → Moment → Status → Type 0
Caused old new WriteFault = Rose old.writes new.writes
Caused old new ReadFault = Rose old.reads new.reads × (new.writes ≡ old.writes)
Caused old new status = new.writes ≡ old.writes

module _ {P : List ℕ → ℕ → List (List ℕ) → Type 0} (old new : Moment) where
  told_caused : (status : Status) → ReadsAndTells P old new status → Caused old new status
  told_caused Done ends = ends.writing.0
  told_caused SomeRefused ends = ends.writing.0
  told_caused Usage ends = ends.writing.0
  told_caused BadSchema ends = ends.writing.0
  told_caused ReadFault ends = (ends.reading.0, ends.writing.0)
  told_caused WriteFault ends = ends.writing.0
  told_caused TooLong ends = ends.writing.0
  told_caused NoMemory ends = ends.writing.0

  -- what ends a run, or a check
  ends_caused : (status : Status) → Ends P old new status → Caused old new status
  ends_caused status (inl ends) = told_caused status ends
  ends_caused status (inr (none, inl same)) = subst (Caused old new) (sym none) (ap (λ (m : Moment). m.writes) same)
  ends_caused status (inr (none, inr hands)) = subst (Caused old new) (sym none) hands.writes

-- what ends the making of a bank, or the usage line
tells_caused : {Says : Status → List ℕ → Type 0} (old new : Moment) (status : Status) → Tells Says old new status → Caused old new status
tells_caused old new Done ends = ends.writing.0
tells_caused old new SomeRefused ends = ends.writing.0
tells_caused old new Usage ends = ends.writing.0
tells_caused old new BadSchema ends = ends.writing.0
tells_caused old new ReadFault ends = absurd (ends.no_file.0 refl)
tells_caused old new WriteFault ends = ends.writing.0
tells_caused old new TooLong ends = ends.writing.0
tells_caused old new NoMemory ends = ends.writing.0

-- the sink's count stood until the hand-over
stood : (old mid : Moment) (came : Status) → HandsOverAt came → Caused old mid came → mid.writes ≡ old.writes
stood old mid Done due caused = caused
stood old mid SomeRefused due caused = caused
stood old mid Usage due caused = caused
stood old mid BadSchema due caused = caused
stood old mid ReadFault due caused = absurd due
stood old mid WriteFault due caused = absurd due
stood old mid TooLong due caused = absurd due
stood old mid NoMemory due caused = caused

module _ (words : List (List ℕ)) (old new : Moment) (status : Status) (comes : Comes words old new status) where
  of_no_file : named words ≡ None → checks words ≡ None → Asks words → Caused old new status
  of_no_file no_run no_check (for_bank n asks) = tells_caused old new status (comes.generated n asks)
  of_no_file no_run no_check (for_none no_bank) = tells_caused old new status (comes.usage no_run no_check no_bank).1

  of_no_run : named words ≡ None → (file : Option (List ℕ)) → checks words ≡ file → Caused old new status
  of_no_run no_run None no_check = of_no_file no_run no_check (asked words)
  of_no_run no_run (Some file) check = ends_caused old new status (comes.checked file check)

  of_words : (names : Option Named) → named words ≡ names → Caused old new status
  of_words None no_run = of_no_run no_run (checks words) refl
  of_words (Some names) run = ends_caused old new status (comes.ran names run)

  -- before the hand-over
  comes_caused : Caused old new status
  comes_caused = of_words (named words) refl

-- the hand-over leaves the causes as they were, or it failed itself
pub hands_caused : (words : List (List ℕ)) (old new : Moment) (status : Status) → ComesOrFails (Comes words old) new status → Caused old new status
hands_caused words old new Done ends = comes_caused words old new Done ends
hands_caused words old new SomeRefused ends = comes_caused words old new SomeRefused ends
hands_caused words old new Usage ends = comes_caused words old new Usage ends
hands_caused words old new BadSchema ends = comes_caused words old new BadSchema ends
hands_caused words old new ReadFault ends = comes_caused words old new ReadFault ends
hands_caused words old new TooLong ends = comes_caused words old new TooLong ends
hands_caused words old new NoMemory ends = comes_caused words old new NoMemory ends
hands_caused words old new WriteFault (inl came) = comes_caused words old new WriteFault came
hands_caused words old new WriteFault (inr failed) =
    let stands = stood old failed.before failed.came failed.due (comes_caused words old failed.before failed.came failed.comes) in
    subst (λ (count : ℕ). Rose count new.writes) stands failed.failed.rose
