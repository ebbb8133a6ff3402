-- Parts of the report about one object, which is told by its number.
-- found keys: all of them, each once, or that they aren't looked for
use Rattle.std.specs.Prelude.{ℕ, ◌≡◌, ◌↔◌, ◌⊎◌, List, [], ◌++◌, Contains, Option, Some, None, MatchOption}
use Rattle.std.specs.Ordering.{nat_cmp}
use Rattle.std.specs.FinSet.{FinSet}
use Rattle.su_base.specs.Sets.{set_at}
use Rattle.su_fd.specs.declared.dependencies.Fd.{Fd}
use Rattle.su_schema.specs.SchemaValue.{SchemaValue}
use Rattle.su_maxobj.specs.MaximalObjects.{object_sets}
use Rattle.su_state.specs.Breaches.{fd_at}
use Rattle.su_advise.specs.Keys.{AreKeys, HasManyFree}
use Rattle.su_advise.specs.Lying.{lying_in}
use Rattle.su_advise.specs.NormalForm.{IsBreaking}
use Rattle.su_report.specs.DependencyLines.{breaking_lines}
use Rattle.su_report.specs.ObjectLines.{key_lines, by_its_own}
use Rattle.su_report.specs.Parts.{AreNotes}

-- the attributes of the object
abbrev pub object_at : SchemaValue → ℕ → FinSet nat_cmp
object_at schema o = set_at (object_sets schema) o

-- what is found of the keys of an object by these dependencies
abbrev pub AreFound : List Fd → FinSet nat_cmp → Option (List (FinSet nat_cmp)) → Type 0
AreFound fds object found = MatchOption found (HasManyFree fds object) (AreKeys fds object)

-- the two found the same
abbrev pub AreSame : Option (List (FinSet nat_cmp)) → Option (List (FinSet nat_cmp)) → Type 0
AreSame (Some xs) (Some ys) = (x : FinSet nat_cmp) → Contains xs x ↔ Contains ys x
AreSame None (Some ys) = ⊥
AreSame (Some xs) None = ⊥
AreSame None None = Unit {0}

-- the keys of an object by all dependencies, and where these aren't the same by those in it
pub record KeysOf (schema : SchemaValue) (o : ℕ) (text : List ℕ) : Type 0 where
  pub all : Option (List (FinSet nat_cmp))
  pub all_are : AreFound schema.fds (object_at schema o) all
  pub own : Option (List (FinSet nat_cmp))
  pub own_are : AreFound (lying_in (object_at schema o) schema.fds) (object_at schema o) own
  pub again : List ℕ
  pub again_is : (AreSame all own × (again ≡ [])) ⊎ ((¬ AreSame all own) × (again ≡ key_lines schema o by_its_own own))
  pub text_is : text ≡ key_lines schema o [] all ++ again

-- what breaks the object's form
abbrev pub BrokenBy : SchemaValue → ℕ → List ℕ → Type 0
BrokenBy schema o text = AreNotes (IsBreaking schema.fds (object_at schema o)) (λ i. breaking_lines schema o (fd_at schema i)) text

-- both
abbrev pub ObjectNotes : SchemaValue → ℕ → List ℕ → Type 0
ObjectNotes schema o text = (keys : List ℕ) × (broken : List ℕ) × (text ≡ keys ++ broken) × KeysOf schema o keys × BrokenBy schema o broken
