-- The sources of a row: the objects that may answer for it.
-- source of a row: an object that has all its essential columns
use Rattle.std.specs.Prelude.{ℕ, ◌<◌, ◌↔◌, IsTrue, length}
use Rattle.std.specs.Ordering.{nat_cmp}
use Rattle.std.specs.FinSet.{FinSet, contains, is_subset}
use Rattle.su_tableau.specs.Tableaux.{Tab}
use Rattle.su_tableau.specs.Essential.{IsEssential}
use Rattle.su_schema.specs.SchemaValue.{SchemaValue}
use Rattle.su_steps.specs.Objects.{attributes_at}

-- o is an object of the schema whose attributes include the essential columns of row r among the rows of m
pub record IsSource (schema : SchemaValue) (t : Tab) (m r o : ℕ) : Type 0 where
  pub object : o < length schema.objects
  pub has_columns : (c : ℕ) → IsEssential t m r c → IsTrue (contains (attributes_at schema o) c)

-- o is an object of the schema whose attributes include the set
abbrev pub HasAttributes : SchemaValue → FinSet nat_cmp → ℕ → Type 0
HasAttributes schema set o = (o < length schema.objects) × IsTrue (is_subset set (attributes_at schema o))

-- the set is that of the essential columns of row r among the rows of m
abbrev pub IsEssentialSet : Tab → ℕ → ℕ → FinSet nat_cmp → Type 0
IsEssentialSet t m r set = (c : ℕ) → IsTrue (contains set c) ↔ IsEssential t m r c
