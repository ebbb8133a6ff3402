-- The attributes of objects, and a universal relation cut to them.
-- width: how many attributes there are, each of one kind
-- cut: the values of a list at the attributes of a set, in ascending order of these
use Rattle.std.specs.Prelude.{ℕ, suc, if◌then◌else◌, List, [], ◌∷◌, length, map, get_or}
use Rattle.std.specs.Ordering.{nat_cmp}
use Rattle.std.specs.FinSet.{FinSet, contains, empty}
use Rattle.su_base.specs.declared.values.Value.{Value}
use Rattle.su_schema.specs.SchemaValue.{SchemaValue}
use Rattle.su_schema.specs.Entries.{attribute_kinds, attributes_of}

-- how many attributes there are
abbrev pub width : SchemaValue → ℕ
width schema = length (attribute_kinds schema)

-- the attributes of an object, by its number
abbrev pub attributes_at : SchemaValue → ℕ → FinSet nat_cmp
attributes_at schema o = get_or (map attributes_of schema.objects) o empty

-- the values whose places, counted from i on, are in the set
abbrev pub cut_from : ℕ → FinSet nat_cmp → List Value → List Value
cut_from i s [] = []
cut_from i s (x ∷ xs) = if contains s i then x ∷ cut_from (suc i) s xs else cut_from (suc i) s xs

-- the values whose places are in the set
abbrev pub cut : FinSet nat_cmp → List Value → List Value
cut s xs = cut_from 0 s xs

-- a universal relation, cut to each object
abbrev pub cuts : SchemaValue → List (List Value) → ℕ → List (List Value)
cuts schema universe o = map (cut (attributes_at schema o)) universe
