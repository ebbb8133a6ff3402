-- A text goes wrong at one place.
-- told: what is told of a fault, and nothing of a text that has a form
use Rattle.std.specs.Prelude.{◌≡◌, ◌&&◌, ℕ, Bool, true, not, List, [], ◌∷◌, Option, Some, None}
use Rattle.su_faults.specs.declared.faults.Fault.{Fault}
use Rattle.su_faults.specs.declared.sorts.Sort.{Sort}
use Rattle.su_faults.specs.Faults.{Tells}
use Rattle.su_faults.specs.Languages.{AreEither}
use Rattle.su_places.specs.Places.{is_wanted, place_text}
use Rattle.su_places.specs.declared.kinds.TheConstants.{KINDS}

abbrev pub told : ℕ → Option Fault → List ℕ
told before None = []
told before (Some fault) = place_text before fault

-- whatever is found of a text of a script, the same is told
abbrev pub OnePlace : Type 0
OnePlace = (text : List ℕ) (one other : Option Fault) (before : ℕ) → Tells AreEither text one → Tells AreEither text other → told before one ≡ told before other

-- no kind is told as a later one is
abbrev pub are_apart : List Sort → Bool
are_apart [] = true
are_apart (kind ∷ kinds) = not (is_wanted kinds kind) && are_apart kinds

-- each kind has its place in the order, and none has two
pub record IsWholeOrder (kinds : List Sort) : Type 0 where
  pub each : (kind : Sort) → is_wanted kinds kind ≡ true
  pub once : are_apart kinds ≡ true

abbrev pub AllKinds : Type 0
AllKinds = IsWholeOrder KINDS
