-- The limits of a statement, and which of them is passed first.
-- part: a query of the statement, in order; variables, outputs and comparisons are counted in each
use Rattle.std.specs.Prelude.{◌⊎◌, ℕ, ◌<◌, ◌≤◌, List, [], ◌∷◌, length, map, None}
use Rattle.std.specs.List.{AllByRecursion}
use Rattle.su_where.specs.declared.conditions.Condition.TheVariants.{All}
use Rattle.su_query.specs.declared.refs.Ref.{Ref}
use Rattle.su_query.specs.declared.statements.Query.{Query}
use Rattle.su_query.specs.declared.statements.Statement.{Statement}
use Rattle.su_query.specs.declared.statements.Statement.TheVariants.{DeleteWhere, Retrieve, Explain, Certify, Support, Compare, Window}
use Rattle.su_query.specs.declared.faults.QueryFault.{QueryFault}
use Rattle.su_query.specs.declared.faults.QueryFault.TheVariants.{Limit}
use Rattle.su_query.specs.declared.faults.QueryLimit.TheVariants.{Variables, Outputs, Comparisons}
use Rattle.su_where.specs.Truth.{comparisons_of}
use Rattle.su_query.specs.Refs.{NamedCond, refs_of}
use Rattle.su_query.specs.Mentions.{mentions}

-- a name without a variable
abbrev pub plain_ref : List ℕ → Ref
plain_ref name = record { variable = None; attribute = name }

-- what is limited in a statement, part by part: its queries, in order
-- the condition of a deletion counts as a query without outputs, and the names of a window as the outputs of one without a condition
abbrev pub parts_of : Statement → List Query
parts_of (DeleteWhere relation cond) = record { outputs = []; cond = cond } ∷ []
parts_of (Retrieve q) = q ∷ []
parts_of (Explain q) = q ∷ []
parts_of (Certify q) = q ∷ []
parts_of (Support q) = q ∷ []
parts_of (Compare first second) = first ∷ second ∷ []
parts_of (Window names) = record { outputs = map plain_ref names; cond = All [] } ∷ []
parts_of _ = []

-- how many variables outputs and a condition mention
abbrev pub variable_count : List Ref → NamedCond → ℕ
variable_count outputs cond = length (mentions (mentions [] outputs) (refs_of cond))

-- no more variables, outputs and comparisons than there may be
pub record AreFew (outputs : List Ref) (cond : NamedCond) : Type 0 where
  pub few_variables : variable_count outputs cond ≤ 8
  pub few_outputs : length outputs ≤ 128
  pub few_comparisons : length (comparisons_of cond) ≤ 256

-- each part of a statement keeps the limits
abbrev pub HasFew : Statement → Type 0
HasFew st = AllByRecursion (λ q. AreFew q.outputs q.cond) (parts_of st)

-- which limit outputs and a condition pass first
abbrev pub Passes : List Ref → NamedCond → QueryFault → Type 0
Passes outputs cond (Limit Variables) = 8 < variable_count outputs cond
Passes outputs cond (Limit Outputs) = (variable_count outputs cond ≤ 8) × (128 < length outputs)
Passes outputs cond (Limit Comparisons) = (variable_count outputs cond ≤ 8) × (length outputs ≤ 128) × (256 < length (comparisons_of cond))
Passes outputs cond _ = ⊥

-- the first part that doesn't keep the limits passes this one
abbrev pub PartsPass : List Query → QueryFault → Type 0
PartsPass [] fault = ⊥
PartsPass (q ∷ qs) fault = Passes q.outputs q.cond fault ⊎ (AreFew q.outputs q.cond × PartsPass qs fault)
