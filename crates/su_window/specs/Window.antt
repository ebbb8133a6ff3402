-- Windows: the rows over given attributes that are in every universal relation.
-- includes: the view of each object is within the universal relation, cut to the object
-- fits: a universal relation that meets the dependencies and includes the stored rows
use Rattle.std.specs.Prelude.{◌≡◌, ℕ, ◌<◌, List, length, Contains}
use Rattle.su_base.specs.declared.values.Value.{Value}
use Rattle.su_tableau.specs.Kinds.{IsUniverse}
use Rattle.su_tableau.specs.Valuations.{values_at}
use Rattle.su_schema.specs.Entries.{attribute_kinds}
use Rattle.su_fd.specs.MetDependencies.{Meets}
use Rattle.su_state.specs.DatabaseValue.{DatabaseValue}
use Rattle.su_schema.specs.Cuts.{cuts}
use Rattle.su_state.specs.Views.{view_of}

-- each member of a view is cut from some row of the universal relation
abbrev pub Includes : DatabaseValue → List (List Value) → Type 0
Includes db universe = (o : ℕ) (x : List Value) → o < length db.schema.objects → Contains (view_of db o) x → Contains (cuts db.schema universe o) x

-- a universal relation that meets the dependencies and includes the stored rows
pub record Fits (db : DatabaseValue) (universe : List (List Value)) : Type 0 where
  pub kinds : IsUniverse (attribute_kinds db.schema) universe
  pub meets : Meets db.schema.fds universe
  pub includes : Includes db universe

-- each fitting universal relation has a row with these values at the attributes
abbrev pub InWindow : DatabaseValue → List ℕ → List Value → Type 0
InWindow db attributes h = (universe : List (List Value)) → Fits db universe → (row : List Value) × Contains universe row × (values_at attributes row ≡ h)
