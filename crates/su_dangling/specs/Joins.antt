-- Rows of views that take part in a join of views, and rows that dangle. Objects are told by their numbers, from 0.
-- view of an object: the lists of values that it takes from the rows of its relation, one value per attribute, ascending
-- join of the views of some objects: the rows over all attributes whose cut to each of the objects is in its view; at an attribute of none of them any value may stand
-- takes part: the cut to the object of a row of the join; dangles: a list of the object's view that doesn't take part
use Rattle.std.specs.Prelude.{◌≡◌, ℕ, ◌<◌, IsTrue, List, length, Contains}
use Rattle.std.specs.Ordering.{nat_cmp}
use Rattle.std.specs.FinSet.{FinSet, contains}
use Rattle.su_base.specs.declared.values.Value.{Value}
use Rattle.su_schema.specs.Cuts.{width, attributes_at, cut}
use Rattle.su_state.specs.DatabaseValue.{DatabaseValue}
use Rattle.su_state.specs.Views.{view_of}

-- the row is in the join of the views of these objects
pub record InJoin (db : DatabaseValue) (objects : FinSet nat_cmp) (row : List Value) : Type 0 where
  pub wide : length row ≡ width db.schema
  pub each : (o : ℕ) → o < length db.schema.objects → IsTrue (contains objects o) → Contains (view_of db o) (cut (attributes_at db.schema o) row)

-- the values are the cut to object o of a row of the join
pub record TakesPart (db : DatabaseValue) (objects : FinSet nat_cmp) (o : ℕ) (values : List Value) : Type 0 where
  pub row : List Value
  pub joined : InJoin db objects row
  pub cut_is : cut (attributes_at db.schema o) row ≡ values

-- the values are in the view of object o, and take no part
abbrev pub Dangles : DatabaseValue → FinSet nat_cmp → ℕ → List Value → Type 0
Dangles db objects o values = Contains (view_of db o) values × ¬ TakesPart db objects o values
