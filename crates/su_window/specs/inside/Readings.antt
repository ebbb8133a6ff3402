-- How the members are read, and the chased rows. No public contract cites this module.
-- columns of an object: for each attribute the column from which the object takes it, if it is its own
-- so far: the members of the objects before one, and its own by the first rows of its relation, are read
use Rattle.std.specs.Prelude.{◌≡◌, ◌↔◌, ◌⊎◌, ℕ, ◌<◌, pos, Bool, false, IsTrue, List, [], ◌∷◌, map, flat_map, take, length, get_or, Contains, Option, MatchOption, Some, None, All}
use Rattle.std.specs.List.{range_with_len}
use Rattle.su_base.specs.declared.values.Value.{Value}
use Rattle.su_base.specs.declared.values.Value.TheVariants.{Int}
use Rattle.su_tableau.specs.declared.symbols.Sym.{Sym}
use Rattle.su_tableau.specs.declared.symbols.Sym.TheVariants.{Const, Var}
use Rattle.su_schema.specs.SchemaValue.{SchemaValue}
use Rattle.su_schema.specs.Entries.{column_of}
use Rattle.su_state.specs.DatabaseValue.{DatabaseValue}
use Rattle.su_chase.specs.inside.Rows.{name_by}
use Rattle.su_window.specs.declared.readings.Reading.{Reading}
use Rattle.su_schema.specs.Cuts.{width}
use Rattle.su_state.specs.Views.{taken}
use Rattle.su_base.specs.Lists.{AllDiffer}
use Rattle.su_window.specs.Members.{Member}
use Rattle.su_window.specs.Padded.{object_at, rows_under, member_read, IsReading}

-- for each attribute its column in an object's view, if it has one
abbrev pub columns_of : SchemaValue → ℕ → List (Option ℕ)
columns_of schema o = map (column_of (object_at schema o)) (range_with_len 0 (width schema))

-- the same for all objects
abbrev pub all_columns : SchemaValue → List (List (Option ℕ))
all_columns schema = map (columns_of schema) (range_with_len 0 (length schema.objects))

-- each column is below n
abbrev pub AreColumnsBelow : ℕ → List (Option ℕ) → Type 0
AreColumnsBelow n columns = All (λ column. (k : ℕ) → column ≡ Some k → k < n) columns

-- the value in a column, if there is one
abbrev pub value_in : List Value → Option ℕ → List Value
value_in row None = []
value_in row (Some k) = get_or row k (Int (pos 0)) ∷ []

-- the values in those columns that are there
abbrev pub values_in : List (Option ℕ) → List Value → List Value
values_in columns row = flat_map (value_in row) columns

-- the value in the column, or that variable
abbrev pub symbol_in : List Value → Option ℕ → ℕ → Sym
symbol_in row None k = Var k
symbol_in row (Some c) k = Const (get_or row c (Int (pos 0)))

-- a list is new among those seen, and then one of them
pub record Sees (old new : List (List Value)) (values : List Value) (is_new : Bool) : Type 0 where
  pub new_one : IsTrue is_new → ¬ Contains old values
  pub old_one : is_new ≡ false → Contains old values
  pub members : (x : List Value) → Contains new x ↔ (Contains old x ⊎ (x ≡ values))

-- the lists that an object takes from the first rows of its relation
abbrev pub lists_before : DatabaseValue → ℕ → ℕ → List (List Value)
lists_before db o p = map (taken db.schema (object_at db.schema o)) (take p (rows_under db o))

-- the member is one of the objects before o, or o's by one of the first rows
abbrev pub IsBefore : DatabaseValue → ℕ → ℕ → Member → Type 0
IsBefore db o p m = ((m.object < o) × Contains (map (taken db.schema (object_at db.schema m.object)) (rows_under db m.object)) m.values) ⊎ ((m.object ≡ o) × Contains (lists_before db o p) m.values)

-- the members of the objects before o, and o's by the first rows, are read once each
pub record AreSoFar (db : DatabaseValue) (o p : ℕ) (readings : List Reading) : Type 0 where
  pub each : All (IsReading db) readings
  pub exact : (m : Member) → Contains (map (member_read db) readings) m ↔ IsBefore db o p m
  pub once : AllDiffer (map (member_read db) readings)

-- the names of a row's symbols at the attributes are these constants
abbrev pub AreConstants : List Sym → List Sym → List ℕ → List Value → Type 0
AreConstants names row attributes h = map (λ a. name_by names (get_or row a (Var 0))) attributes ≡ map Const h

-- the constants that name a row's symbols at the attributes, or some name is no constant
abbrev pub AreConstantsIfAny : List Sym → List Sym → List ℕ → Option (List Value) → Type 0
AreConstantsIfAny names row attributes found = MatchOption found ((h : List Value) → ¬ AreConstants names row attributes h) (AreConstants names row attributes)

-- the constants of some of the rows
abbrev pub AreConstantsIn : List Sym → List (List Sym) → List ℕ → List Value → Type 0
AreConstantsIn names rows attributes h = (row : List Sym) × Contains rows row × AreConstants names row attributes h
