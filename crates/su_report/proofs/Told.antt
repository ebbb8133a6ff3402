-- What is told of numbers that were found, behind a text.
use Rattle.std.proofs.Common.{ℕ, ◌≡◌, ◌<◌, Bool, not, ◌==◌, List, ◌++◌, All, Option, Some, None, MatchOption, length, flat_map, refl}
use Rattle.su_base.specs.Lists.{AreExactly}
use Rattle.su_base.proofs.Items.{All-members}
use Rattle.su_fd.specs.declared.dependencies.Fd.{Fd}
use Rattle.su_advise.specs.Redundant.{IsSpare}
use Rattle.su_show.specs.inside.AddedTexts.{Adds}
use Rattle.su_report.specs.Parts.{AreNotes, AreFaults}
use Rattle.su_report.specs.inside.Added.{AddsFaults}

module _ (P : ℕ → Type 0) (line : ℕ → List ℕ) (found old new : List ℕ) (are : AreExactly P found) (told : new ≡ old ++ flat_map line found) where
  pub notes_told : Adds (AreNotes P line) old new
  notes_told = (flat_map line found, told, (found, are, refl))

  pub faults_told : (fault : Bool) → fault ≡ not (length found == 0) → AddsFaults (AreFaults P line) old new fault
  faults_told fault is = (flat_map line found, told, (found, are, refl, is))

-- spare attributes are attributes
pub spares_low : (fds : List Fd) (f : Fd) (found : List ℕ) → AreExactly (IsSpare fds f) found → All (λ a. a < 128) found
spares_low fds f found are = All-members (λ a. a < 128) found (λ a there. ((are.members a).0 there).0)

-- ---- a list that isn't there

pub none_of : {A : Type 0} (o : Option A) → ((x : A) → o ≡ Some x → ⊥) → o ≡ None
none_of None not = refl
none_of (Some x) not = absurd (not x refl)

pub no_order : {A : Type 0} (o : Option A) (P : Type 0) (Q : A → Type 0) → ((x : A) → o ≡ Some x → ⊥) → MatchOption o P Q → P
no_order None P Q not is = is
no_order (Some x) P Q not is = absurd (not x refl)
