-- How the text of a bank is told.
use Rattle.std.proofs.Common.{◌≡◌, ℕ, List, refl}
use Rattle.su_io.specs.declared.status.Status.{Status}
use Rattle.su_io.specs.declared.status.Status.TheVariants.{Done}
use Rattle.su_io.specs.Moments.{Moment}
use Rattle.su_io.specs.WrittenTexts.{IsTold}
use Rattle.su_io.proofs.OneText.{tells}
use Rattle.su_bank.specs.Banks.{IsBankText}
use Rattle.sysu.specs.Banks.{BankEnds}

pub bank_told : (n : ℕ) (text : List ℕ) → IsBankText n text → (old new : Moment) (status : Status) → IsTold text Done old new status → BankEnds n old new status
bank_told n text is_text old new status told =
    tells (λ came t. (came ≡ Done) × IsBankText n t) Done text (refl, is_text) (text, (refl, is_text), refl) (λ e. absurd (cc), λ e. absurd (cc)) old new status told
