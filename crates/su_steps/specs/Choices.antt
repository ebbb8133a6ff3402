-- Choices of one maximal object per variable, and the rows that a choice asks for.
-- choice: for each variable, in order, the number of a maximal object that covers it; origin of a row: its variable and its object
use Rattle.std.specs.Prelude.{ℕ, suc, List, [], ◌∷◌, ◌++◌, length, map, filter, get_or}
use Rattle.std.specs.List.{range_with_len}
use Rattle.std.specs.Ordering.{nat_cmp}
use Rattle.std.specs.FinSet.{FinSet, empty}
pub use Rattle.su_where.specs.Disjunct.{combinations}
use Rattle.su_schema.specs.SchemaValue.{SchemaValue}
use Rattle.su_query.specs.declared.resolving.Resolved.{Resolved}
use Rattle.su_query.specs.Sets.{mentioned_with}
use Rattle.su_steps.specs.declared.results.Origin.{Origin}
use Rattle.su_steps.specs.Objects.{objects_of, covers}

-- the numbers of the maximal objects that cover the variable
abbrev pub coverings_of : SchemaValue → List (FinSet nat_cmp) → Resolved → ℕ → List ℕ
coverings_of schema maximal q v = filter (λ m. covers schema (get_or maximal m empty) (mentioned_with q.places v)) (range_with_len 0 (length maximal))

-- the same for each variable
abbrev pub coverings : SchemaValue → List (FinSet nat_cmp) → Resolved → List (List ℕ)
coverings schema maximal q = map (coverings_of schema maximal q) (range_with_len 0 (length q.variables))

-- the choices, in lexicographic order
abbrev pub choices : SchemaValue → List (FinSet nat_cmp) → Resolved → List (List ℕ)
choices schema maximal q = combinations (coverings schema maximal q)

-- the objects of each variable
abbrev pub chosen_objects : SchemaValue → List (FinSet nat_cmp) → List ℕ → List (List ℕ)
chosen_objects schema maximal choice = map (λ m. objects_of schema (get_or maximal m empty)) choice

-- the row of variable v for object o
abbrev pub origin : ℕ → ℕ → Origin
origin v o = record { variable = v; object = o }

-- the origins of the rows of the variables from v on: variable by variable, object by object
abbrev pub origins_from : ℕ → List (List ℕ) → List Origin
origins_from v [] = []
origins_from v (os ∷ rest) = map (origin v) os ++ origins_from (suc v) rest

-- the origins of the rows of a choice
abbrev pub origins_of : SchemaValue → List (FinSet nat_cmp) → List ℕ → List Origin
origins_of schema maximal choice = origins_from 0 (chosen_objects schema maximal choice)
