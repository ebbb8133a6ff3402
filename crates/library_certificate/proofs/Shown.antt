-- A yes is a verdict on a certificate that the bytes spell: a text that spells none gets a no.
use Rattle.std.proofs.Common.{◌≡◌, ℕ, List, sym, subst}
use Rattle.su_check.specs.declared.verdicts.Checked.{Checked}
use Rattle.su_check.specs.declared.verdicts.Checked.TheVariants.{Yes, No}
use Rattle.su_check.specs.Verdict.{IsVerdict, no_certificate, on_certificate, AreLeast}
use Rattle.library_certificate.specs.Shown.{Shows}

-- whether the verdict is a yes
abbrev pub IsYes : Checked → Type 0
IsYes (Yes n) = Unit {0}
IsYes (No fault) = ⊥

pub yes_shows : (bytes : List ℕ) (n : ℕ) → IsVerdict bytes (Yes n) → AreLeast bytes → Shows bytes n
yes_shows bytes n (no_certificate none is) least = absurd (subst IsYes is tt)
yes_shows bytes n (on_certificate c reads verdict) least = record { certificate = c; reads = reads; count = verdict.0; least = least c reads }

pub no_is_no_yes : (bytes : List ℕ) (n : ℕ) (v : Checked) → (IsYes v → ⊥) → ((w : Checked) → IsVerdict bytes v → IsVerdict bytes w → v ≡ w) → IsVerdict bytes v → IsVerdict bytes (Yes n) → ⊥
no_is_no_yes bytes n v not_yes one is other = not_yes (subst IsYes (sym (one (Yes n) is other)) tt)
