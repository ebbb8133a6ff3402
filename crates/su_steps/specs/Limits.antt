-- The limits of the terms of a query.
-- case: a disjunct and a choice; a choice has a row for each object of each of its maximal objects
use Rattle.std.specs.Prelude.{ℕ, ◌*◌, ◌<◌, ◌≤◌, List, length, All, Contains}
use Rattle.std.specs.Ordering.{nat_cmp}
use Rattle.std.specs.FinSet.{FinSet}
use Rattle.su_where.specs.Disjunct.{disjuncts_of}
use Rattle.su_schema.specs.SchemaValue.{SchemaValue}
use Rattle.su_query.specs.declared.resolving.Resolved.{Resolved}
use Rattle.su_steps.specs.declared.faults.StepLimit.{StepLimit}
use Rattle.su_steps.specs.declared.faults.StepLimit.TheVariants.{Disjuncts, Rows, Terms}
use Rattle.su_steps.specs.Choices.{choices, origins_of}

-- how many disjuncts there are
abbrev pub disjunct_count : Resolved → ℕ
disjunct_count q = length (disjuncts_of q.cond)

-- how many rows a choice has
abbrev pub row_count : SchemaValue → List (FinSet nat_cmp) → List ℕ → ℕ
row_count schema maximal choice = length (origins_of schema maximal choice)

-- at most 64 disjuncts
abbrev pub HasFewDisjuncts : Resolved → Type 0
HasFewDisjuncts q = disjunct_count q ≤ 64

-- each choice has at most 64 rows
abbrev pub HasFewRows : SchemaValue → List (FinSet nat_cmp) → Resolved → Type 0
HasFewRows schema maximal q = All (λ choice. row_count schema maximal choice ≤ 64) (choices schema maximal q)

-- at most 256 cases, those without a term counted
abbrev pub HasFewTerms : SchemaValue → List (FinSet nat_cmp) → Resolved → Type 0
HasFewTerms schema maximal q = disjunct_count q * length (choices schema maximal q) ≤ 256

-- some choice has more than 64 rows
abbrev pub HasManyRows : SchemaValue → List (FinSet nat_cmp) → Resolved → Type 0
HasManyRows schema maximal q = (choice : List ℕ) × Contains (choices schema maximal q) choice × (64 < row_count schema maximal choice)

-- which limit is passed, the earlier ones being kept
abbrev pub IsLimitPassed : SchemaValue → List (FinSet nat_cmp) → Resolved → StepLimit → Type 0
IsLimitPassed schema maximal q Disjuncts = 64 < disjunct_count q
IsLimitPassed schema maximal q Rows = HasFewDisjuncts q × HasManyRows schema maximal q
IsLimitPassed schema maximal q Terms = HasFewDisjuncts q × HasFewRows schema maximal q × (256 < disjunct_count q * length (choices schema maximal q))
