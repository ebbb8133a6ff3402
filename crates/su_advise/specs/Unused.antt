-- What no object uses: attributes, relations and columns, each told by its number.
-- used attribute: one of an object; read relation: one that an object stands over
-- paired column: one from which an object over its relation takes an attribute
use Rattle.std.specs.Prelude.{ℕ, ◌≡◌, ◌<◌, Bool, false, List, length, map, slice_get, Some}
use Rattle.std.specs.List.{list_any}
use Rattle.std.specs.Ordering.{nat_cmp}
use Rattle.std.specs.FinSet.{FinSet, contains}
use Rattle.su_schema.specs.SchemaValue.{SchemaValue}
use Rattle.su_schema.specs.Entries.{column_of}
use Rattle.su_schema.specs.Known.{columns_at}

-- whether some object has the attribute
abbrev pub is_used : List (FinSet nat_cmp) → ℕ → Bool
is_used objects a = list_any (λ s. contains s a) objects

-- of so many attributes one that no object has
abbrev pub IsUnused : ℕ → List (FinSet nat_cmp) → ℕ → Type 0
IsUnused width objects a = (a < width) × (is_used objects a ≡ false)

-- the object o stands over the relation r
abbrev pub IsOver : SchemaValue → ℕ → ℕ → Type 0
IsOver schema o r = slice_get (map (λ object. object.relation) schema.objects) o ≡ Some r

-- the object o takes the attribute a from the column c of its relation
abbrev pub Takes : SchemaValue → ℕ → ℕ → ℕ → Type 0
Takes schema o a c = slice_get (map (λ object. column_of object a) schema.objects) o ≡ Some (Some c)

-- the object o takes some attribute from the column c
abbrev pub TakesFrom : SchemaValue → ℕ → ℕ → Type 0
TakesFrom schema o c = (a : ℕ) × (a < length schema.attributes) × Takes schema o a c

-- some object stands over the relation r
abbrev pub IsRead : SchemaValue → ℕ → Type 0
IsRead schema r = (o : ℕ) × (o < length schema.objects) × IsOver schema o r

-- a relation over which no object stands
abbrev pub IsUnread : SchemaValue → ℕ → Type 0
IsUnread schema r = (r < length schema.relations) × ¬ IsRead schema r

-- some object over the relation r takes an attribute from its column c
abbrev pub IsPaired : SchemaValue → ℕ → ℕ → Type 0
IsPaired schema r c = (o : ℕ) × (o < length schema.objects) × IsOver schema o r × TakesFrom schema o c

-- a column of the relation r, over which some object stands, from which none takes an attribute
abbrev pub IsUnpaired : SchemaValue → ℕ → ℕ → Type 0
IsUnpaired schema r c = (c < length (columns_at schema r)) × IsRead schema r × ¬ IsPaired schema r c
