-- A hand-over behind what a run came to.
use Rattle.std.proofs.Common.{◌≡◌, ℕ, List, Option, Some, None, refl}
use Rattle.su_io.specs.declared.status.Status.{Status}
use Rattle.su_io.specs.HandOver.{HandsAllOver}
use Rattle.su_io.specs.Moments.{Moment}
use Rattle.su_io.specs.Programs.{StopsOver}
use Rattle.su_io.proofs.Programs.{Ends-on, Ends-over, Tells-on, Tells-over, UsageEnds-on}
use Rattle.sysu.specs.Statuses.{Comes}
use Rattle.sysu.specs.Words.{Named, named, checks, usage_line}
use Rattle.sysu.proofs.OneBank.{Asks, for_bank, for_none, asked}

module _ (words : List (List ℕ)) where
  -- it leaves it so
  pub comes_on : (old mid new : Moment) → HandsAllOver mid new → (status : Status) → Comes words old mid status → Comes words old new status
  comes_on old mid new hands status comes = record {
    usage = λ no_run no_check no_bank. UsageEnds-on old mid new hands usage_line status (comes.usage no_run no_check no_bank);
    ran = λ names run. Ends-on old mid new hands status (comes.ran names run);
    checked = λ file check. Ends-on old mid new hands status (comes.checked file check);
    generated = λ n asks. Tells-on old mid new hands status (comes.generated n asks);
  }

  module _ (old new : Moment) (status : Status) (comes : Comes words old new status) where
    of_no_file : named words ≡ None → checks words ≡ None → Asks words → StopsOver old new status
    of_no_file no_run no_check (for_bank n asks) = Tells-over old new status (comes.generated n asks)
    of_no_file no_run no_check (for_none no_bank) = Tells-over old new status (comes.usage no_run no_check no_bank).1

    of_no_run : named words ≡ None → (file : Option (List ℕ)) → checks words ≡ file → StopsOver old new status
    of_no_run no_run None no_check = of_no_file no_run no_check (asked words)
    of_no_run no_run (Some file) check = Ends-over old new status (comes.checked file check)

    of_words : (names : Option Named) → named words ≡ names → StopsOver old new status
    of_words None no_run = of_no_run no_run (checks words) refl
    of_words (Some names) run = Ends-over old new status (comes.ran names run)

    -- where it stops at a file, nothing is left to hand over
    pub comes_over : StopsOver old new status
    comes_over = of_words (named words) refl
