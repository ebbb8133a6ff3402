-- The members of the views of a database.
-- member: an object, by its number, and a list of its view; a list in the views of two objects is two members
use Rattle.std.specs.Prelude.{◌↔◌, ℕ, ◌≤◌, List, length, Contains}
use Rattle.su_base.specs.Lists.{AllDiffer}
use Rattle.su_base.specs.declared.values.Value.{Value}
use Rattle.su_state.specs.DatabaseValue.{DatabaseValue}
use Rattle.su_state.specs.Views.{view_of}

-- an object and a list of values on its columns
pub record Member : Type 0 where
  pub object : ℕ
  pub values : List Value

-- the values are a member of the object's view
abbrev pub IsMember : DatabaseValue → Member → Type 0
IsMember db m = Contains (view_of db m.object) m.values

-- these are the members, each once
pub record AreMembers (db : DatabaseValue) (members : List Member) : Type 0 where
  pub exact : (m : Member) → Contains members m ↔ IsMember db m
  pub once : AllDiffer members

-- there are at most 20000 members
abbrev pub HasFew : DatabaseValue → Type 0
HasFew db = (members : List Member) × AreMembers db members × (length members ≤ 20000)
