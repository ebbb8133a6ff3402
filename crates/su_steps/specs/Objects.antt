-- The objects of a set, and their attributes.
-- maximal object: a set of objects, by their numbers
-- covers: the attributes of the set's objects include the given ones
use Rattle.std.specs.Prelude.{ℕ, Bool, List, [], ◌∷◌, length}
use Rattle.std.specs.Ordering.{nat_cmp}
use Rattle.std.specs.FinSet.{FinSet, union, is_subset, empty}
use Rattle.su_schema.specs.SchemaValue.{SchemaValue}
use Rattle.su_schema.specs.SetMembers.{numbers_in}
pub use Rattle.su_schema.specs.Cuts.{width, attributes_at}

-- the objects of a set, in the order of declaration
abbrev pub objects_of : SchemaValue → FinSet nat_cmp → List ℕ
objects_of schema m = numbers_in m (length schema.objects)

-- the attributes of these objects together
abbrev pub attributes_of_all : SchemaValue → List ℕ → FinSet nat_cmp
attributes_of_all schema [] = empty
attributes_of_all schema (o ∷ os) = union (attributes_at schema o) (attributes_of_all schema os)

-- whether the objects of a set have all these attributes
abbrev pub covers : SchemaValue → FinSet nat_cmp → FinSet nat_cmp → Bool
covers schema m s = is_subset s (attributes_of_all schema (objects_of schema m))
