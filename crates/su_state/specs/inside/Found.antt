-- What a search among stored rows finds: the position of one, or that there is none.
-- position: a row's number among rows, from 0; least: by the order of rows; first: of the least number; found: what the search gives
-- object, a, c: an object, an attribute, a column, by number from 0; fd: a dependency
-- sides: the columns of both sides of one; clash: two rows agree at the left ones, differ at the right ones
-- No public contract cites this module.
use Rattle.std.specs.Prelude.{◌≡◌, ◌<◌, ℕ, List, length, Contains, slice_get, Option, MatchOption, Some}
use Rattle.std.specs.Ordering.{nat_cmp}
use Rattle.std.specs.FinSet.{FinSet, insert}
use Rattle.su_base.specs.declared.values.Value.{Value}
use Rattle.su_fd.specs.declared.dependencies.Fd.{Fd}
use Rattle.su_fd.specs.MetDependencies.{LiesIn}
use Rattle.su_schema.specs.SchemaValue.{SchemaValue, ObjectEntry}
use Rattle.su_schema.specs.Entries.{attributes_of, column_of}
use Rattle.su_state.specs.declared.sides.Sides.{Sides}
use Rattle.su_state.specs.declared.pairs.Pair.{Pair}
use Rattle.su_state.specs.inside.Sides.{AgreeAt, AreSidesOf, Clash, IsLeastClash, row_at}
use Rattle.su_state.specs.inside.Pairs.{IsLeastPair}

-- the position is that of a row which is such
abbrev pub StandsAt : List (List Value) → (List Value → Type 0) → ℕ → Type 0
StandsAt rows IsSuch p = (p < length rows) × IsSuch (row_at rows p)

-- ---- clashes

-- no two of the rows clash
abbrev pub NoneClash : Sides → List (List Value) → Type 0
NoneClash sides rows = (row other : List Value) → Contains rows row → Contains rows other → ¬ Clash sides row other

-- the least of the rows with which the row clashes, or none
abbrev pub IsLeastClashAt : Sides → List (List Value) → List Value → Option ℕ → Type 0
IsLeastClashAt sides rows row found = MatchOption found ((other : List Value) → Contains rows other → ¬ Clash sides row other) (StandsAt rows (IsLeastClash sides rows row))

-- a row with the row's values in the columns, or none
abbrev pub IsAlikeAt : FinSet nat_cmp → List (List Value) → List Value → Option ℕ → Type 0
IsAlikeAt columns rows row found = MatchOption found ((other : List Value) → Contains rows other → ¬ AgreeAt columns row other) (StandsAt rows (AgreeAt columns row))

-- the least pair of rows that clash, or none
abbrev pub IsLeastPairAt : Sides → List (List Value) → Option Pair → Type 0
IsLeastPairAt sides rows found =
    MatchOption found (NoneClash sides rows) (λ pair. (pair.first < length rows) × (pair.second < length rows) × IsLeastPair sides rows (row_at rows pair.first) (row_at rows pair.second))

-- ---- columns

-- the columns, and that from which the object takes the attribute
abbrev pub AddsColumn : SchemaValue → ℕ → ℕ → FinSet nat_cmp → FinSet nat_cmp → Type 0
AddsColumn schema object a old new = (entry : ObjectEntry) → slice_get schema.objects object ≡ Some entry → MatchOption (column_of entry a) (new ≡ old) (λ c. new ≡ insert old c)

-- the columns of the dependency's sides, or it doesn't lie in the object
abbrev pub AreSidesIfAny : SchemaValue → Fd → ℕ → Option Sides → Type 0
AreSidesIfAny schema fd object found = (entry : ObjectEntry) → slice_get schema.objects object ≡ Some entry → MatchOption found (¬ LiesIn fd (attributes_of entry)) (AreSidesOf entry fd)
