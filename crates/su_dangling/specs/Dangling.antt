-- What is counted of an object among others whose views are joined.
-- view, join, to take part, to dangle: as in Joins; the rows of a view are its lists of values, each once
use Rattle.std.specs.Prelude.{◌≡◌, ℕ, List, length, take, Contains}
use Rattle.std.specs.List.{AllZip}
use Rattle.std.specs.Ordering.{nat_cmp}
use Rattle.std.specs.FinSet.{FinSet}
use Rattle.su_base.specs.declared.values.Value.{Value}
use Rattle.su_rel.specs.ExactRows.{AreExactlyRows}
use Rattle.su_schema.specs.SetMembers.{numbers_in}
use Rattle.su_state.specs.DatabaseValue.{DatabaseValue}
use Rattle.su_state.specs.Views.{view_of}
use Rattle.su_dangling.specs.Joins.{TakesPart, Dangles}
use Rattle.su_dangling.specs.declared.counting.Dangling.{Dangling}

-- how many rows the object's view has, how many of them take part in the join of these objects' views, how many dangle, and the least three of those
pub record IsCounted (db : DatabaseValue) (objects : FinSet nat_cmp) (o : ℕ) (d : Dangling) : Type 0 where
  pub object : d.object ≡ o
  pub view : List (List Value)
  pub view_is : AreExactlyRows (Contains (view_of db o)) view
  pub rows : d.rows ≡ length view
  pub taking_part : List (List Value)
  pub taking_part_is : AreExactlyRows (TakesPart db objects o) taking_part
  pub joined : d.joined ≡ length taking_part
  pub left : List (List Value)
  pub left_is : AreExactlyRows (Dangles db objects o) left
  pub dangling : d.dangling ≡ length left
  pub least : d.least ≡ take 3 left

-- so for each of the objects, in the order of declaration
abbrev pub AreCounted : DatabaseValue → FinSet nat_cmp → List Dangling → Type 0
AreCounted db objects found = AllZip (IsCounted db objects) (numbers_in objects (length db.schema.objects)) found
