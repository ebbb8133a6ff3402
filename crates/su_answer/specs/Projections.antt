-- Relations that are the projections of one universal relation.
-- view of an object: what it takes from the rows of its relation; projections: each view is the universal relation cut to its object
use Rattle.std.specs.Prelude.{◌↔◌, ◌<◌, ℕ, List, length, Contains}
use Rattle.std.specs.Ordering.{nat_cmp}
use Rattle.std.specs.FinSet.{FinSet}
use Rattle.su_base.specs.declared.values.Value.{Value}
use Rattle.su_tableau.specs.Kinds.{IsUniverse}
use Rattle.su_query.specs.declared.resolving.Resolved.{Resolved}
use Rattle.su_schema.specs.Entries.{attribute_kinds}
use Rattle.su_state.specs.DatabaseValue.{DatabaseValue}
pub use Rattle.su_state.specs.Views.{value_for, taken, view_through, view_of}
use Rattle.su_steps.specs.Expression.{Meets, cuts, InExpression}

-- the view of each object is the universal relation, cut to the object
abbrev pub AreProjections : DatabaseValue → List (List Value) → Type 0
AreProjections db universe = (o : ℕ) → o < length db.schema.objects → (x : List Value) → Contains (view_of db o) x ↔ Contains (cuts db.schema universe o) x

-- where the relations are the projections of one universal relation that meets the dependencies, the rows are those of the query's expression
abbrev pub AreOfExpression : DatabaseValue → List (FinSet nat_cmp) → Resolved → List (List Value) → Type 0
AreOfExpression db maximal q rows = (universe : List (List Value)) (h : List Value) → IsUniverse (attribute_kinds db.schema) universe → Meets db.schema.fds universe → AreProjections db universe
    → (Contains rows h ↔ InExpression db.schema maximal q (view_of db) h)
