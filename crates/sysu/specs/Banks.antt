-- How `generate N` ends.
-- bank: as in su_bank
use Rattle.std.specs.Prelude.{◌≡◌, ℕ}
use Rattle.su_io.specs.declared.status.Status.{Status}
use Rattle.su_io.specs.declared.status.Status.TheVariants.{Done}
use Rattle.su_io.specs.Moments.{Moment}
use Rattle.su_io.specs.Programs.{Tells}
use Rattle.su_bank.specs.Banks.{IsBankText}

-- the text of a bank with n rows in each relation is told
abbrev pub BankEnds : ℕ → Moment → Moment → Status → Type 0
BankEnds n old new status = Tells (λ came text. (came ≡ Done) × IsBankText n text) old new status
