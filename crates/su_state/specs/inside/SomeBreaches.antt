-- Some breaches: those of one dependency, those through one object, and the first that a row has among them, if any.
-- among: which breaches they are
-- found: what a search for the first gives, its dependency and its object by number, its second row by position
-- No public contract cites this module.
use Rattle.std.specs.Prelude.{◌≡◌, ◌<◌, ℕ, List, length, Option, MatchOption}
use Rattle.su_base.specs.declared.values.Value.{Value}
use Rattle.su_schema.specs.SchemaValue.{SchemaValue}
use Rattle.su_state.specs.declared.breaches.FirstBreach.{FirstBreach}
use Rattle.su_state.specs.Breaches.{Breach, IsFirstOf, IsBreachWith}
use Rattle.su_state.specs.inside.Sides.{row_at}

-- those of the dependency with this number
abbrev pub OfDependency : ℕ → (Breach → Type 0) → Breach → Type 0
OfDependency fd Among b = Among b × (b.dependency ≡ fd)

-- those through the object with this number
abbrev pub ThroughObject : ℕ → (Breach → Type 0) → Breach → Type 0
ThroughObject object Among b = Among b × (b.object ≡ object)

-- the breach that was found for a row
abbrev pub breach_found : List (List Value) → List Value → FirstBreach → Breach
breach_found rows row found = record { dependency = found.fd; object = found.object; first = row; second = row_at rows found.position }

-- the first of some breaches of a row with one of these rows, or that there is none
abbrev pub IsFirstBreach : (Breach → Type 0) → List (List Value) → List Value → Option FirstBreach → Type 0
IsFirstBreach Among rows row found =
    MatchOption found ((b : Breach) → ¬ Among b) (λ b. (b.position < length rows) × IsFirstOf Among (breach_found rows row b))

-- the row breaks nothing with these rows of the relation
abbrev pub BreaksNothing : SchemaValue → ℕ → List (List Value) → List Value → Type 0
BreaksNothing schema relation rows row = (b : Breach) → ¬ IsBreachWith schema relation rows row b
