-- What is told of the rows that have a row's values in some columns.
-- column: of the relation, from 0
use Rattle.std.specs.Prelude.{◌≡◌, ◌<◌, ℕ, List, Contains, length, slice_get, IsTrue}
use Rattle.std.specs.FinSet.{FinSet, contains}
use Rattle.std.specs.Ordering.{nat_cmp}
use Rattle.su_base.specs.declared.values.Value.{Value}
use Rattle.su_index.specs.declared.alike.Alike.{Alike}
use Rattle.su_index.specs.declared.alike.Alike.TheVariants.{Nowhere, MaybeAt, Unknown}

-- one value in each of the columns
abbrev pub AgreeAt : FinSet nat_cmp → List Value → List Value → Type 0
AgreeAt columns row other = (c : ℕ) → IsTrue (contains columns c) → slice_get row c ≡ slice_get other c

-- what is told of the rows that have the row's values in the columns
abbrev pub Tells : FinSet nat_cmp → List (List Value) → List Value → Alike → Type 0
Tells columns rows row Nowhere = (other : List Value) → Contains rows other → ¬ AgreeAt columns row other
Tells columns rows row (MaybeAt p) = p < length rows
Tells columns rows row Unknown = Unit {0}
