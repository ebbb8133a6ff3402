-- Why a query is refused, in words.
-- cause: what stands behind `refused: `
use Rattle.std.specs.Prelude.{ℕ, List, ◌++◌, codes, Option, Some, None}
use Rattle.su_base.specs.declared.values.Kind.{Kind}
use Rattle.su_base.specs.declared.values.Kind.TheVariants as kind
use Rattle.su_schema.specs.SchemaValue.{SchemaValue}
use Rattle.su_query.specs.declared.faults.QueryFault.{QueryFault}
use Rattle.su_query.specs.declared.faults.QueryFault.TheVariants as query
use Rattle.su_query.specs.declared.faults.QueryLimit.{QueryLimit}
use Rattle.su_query.specs.declared.faults.QueryLimit.TheVariants as limit
use Rattle.su_steps.specs.declared.faults.StepFault.{StepFault}
use Rattle.su_steps.specs.declared.faults.StepFault.TheVariants as step
use Rattle.su_steps.specs.declared.faults.StepLimit.{StepLimit}
use Rattle.su_steps.specs.declared.faults.StepLimit.TheVariants as step_limit
use Rattle.su_show.specs.Values.{attributes_text}

-- the word of a kind
abbrev pub kind_text : Kind → List ℕ
kind_text kind.Int = codes "int"
kind_text kind.Text = codes "text"

-- the limits of a query
abbrev pub query_limit_text : QueryLimit → List ℕ
query_limit_text limit.Nesting = codes "limit nesting 64"
query_limit_text limit.Variables = codes "limit variables 8"
query_limit_text limit.Outputs = codes "limit outputs 128"
query_limit_text limit.Comparisons = codes "limit comparisons 256"

-- why a text is no statement that can be answered; want of memory has no text
abbrev pub query_fault_text : QueryFault → Option (List ℕ)
query_fault_text query.Syntax = Some (codes "syntax")
query_fault_text (query.Limit which) = Some (query_limit_text which)
query_fault_text query.NoMemory = None
query_fault_text (query.Unknown name) = Some (codes "unknown attribute " ++ name)
query_fault_text (query.Kinds left right) = Some (codes "kinds " ++ kind_text left ++ codes " and " ++ kind_text right)
query_fault_text (query.UnknownColumn name) = Some (codes "unknown column " ++ name)

-- a variable as it is shown
abbrev pub variable_text : Option (List ℕ) → List ℕ
variable_text None = codes "-"
variable_text (Some name) = name

-- the limits of a query's terms
abbrev pub step_limit_text : StepLimit → List ℕ
step_limit_text step_limit.Disjuncts = codes "limit disjuncts 64"
step_limit_text step_limit.Rows = codes "limit rows 64"
step_limit_text step_limit.Terms = codes "limit terms 256"

-- why a query has no terms; want of memory has no text
abbrev pub step_text : SchemaValue → StepFault → Option (List ℕ)
step_text schema (step.NotCovered variable mentioned) = Some (codes "no maximal object covers " ++ variable_text variable ++ codes ":" ++ attributes_text schema mentioned)
step_text schema (step.Limit which) = Some (step_limit_text which)
step_text schema step.NoMemory = None
