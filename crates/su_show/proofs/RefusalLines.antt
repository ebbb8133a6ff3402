-- The line of a refusal, of a statement or of a schema: there is at most one, and none for want of memory.
use Rattle.std.proofs.Common.{◌≡◌, ◌≢◌, ◌++◌, List, ℕ, Option, Some, None, sym, ◌∙◌, subst}
use Rattle.std.specs.Prelude.{codes, IsSomeAnd}
use Rattle.su_schema.specs.SchemaValue.{SchemaValue}
use Rattle.su_schema.specs.declared.faults.SchemaFault.{SchemaFault}
use Rattle.su_schema.specs.declared.faults.SchemaFault.TheVariants as definition
use Rattle.su_csv.specs.declared.faults.CsvFault.{CsvFault}
use Rattle.su_csv.specs.declared.faults.CsvFault.TheVariants as csv
use Rattle.su_ddl.specs.declared.faults.DdlFault.{DdlFault}
use Rattle.su_query.specs.declared.faults.QueryFault.{QueryFault}
use Rattle.su_query.specs.declared.faults.QueryFault.TheVariants as query
use Rattle.su_state.specs.declared.faults.StateFault.{StateFault}
use Rattle.su_state.specs.declared.faults.StateFault.TheVariants as state
use Rattle.su_state.specs.declared.faults.DefineFault.{DefineFault}
use Rattle.su_state.specs.declared.faults.DefineFault.TheVariants as define
use Rattle.su_steps.specs.declared.faults.StepFault.{StepFault}
use Rattle.su_steps.specs.declared.faults.StepFault.TheVariants as step
use Rattle.su_show.specs.declared.statement_refusal.Refusal.{Refusal}
use Rattle.su_show.specs.declared.statement_refusal.Refusal.TheVariants.{Query, State, Csv, Steps, Define}
use Rattle.su_show.specs.RefusalLines.{refusal_text, IsRefusalLine}
use Rattle.su_show.specs.Refusals.{schema_line, IsLineFor}

one_shown : (shown : List ℕ → List ℕ) (text : Option (List ℕ)) (line other : List ℕ) → IsSomeAnd text (λ t. line ≡ shown t) → IsSomeAnd text (λ t. other ≡ shown t) → line ≡ other
one_shown shown (Some text) line other h k = h ∙ sym k
one_shown shown None line other h k = absurd h

-- a refusal has at most one line
pub one_line : (schema : SchemaValue) (refusal : Refusal) (line other : List ℕ) → IsRefusalLine schema refusal line → IsRefusalLine schema refusal other → line ≡ other
one_line schema refusal line other h k = one_shown (λ text. codes "refused: " ++ text ++ codes "\n") (refusal_text schema refusal) line other h k

-- and so has a refused schema
pub one_schema_line : (fault : DdlFault) (line other : List ℕ) → IsLineFor fault line → IsLineFor fault other → line ≡ other
one_schema_line fault line other h k = one_shown (λ text. text) (schema_line fault) line other h k

-- ---- a fault that has a line is no want of memory

module _ (schema : SchemaValue) (line : List ℕ) where
  pub query_told : (fault : QueryFault) → IsRefusalLine schema (Query fault) line → fault ≢ query.NoMemory
  query_told fault told none = subst (λ (f : QueryFault). IsRefusalLine schema (Query f) line) none told

  pub state_told : (fault : StateFault) → IsRefusalLine schema (State fault) line → fault ≢ state.NoMemory
  state_told fault told none = subst (λ (f : StateFault). IsRefusalLine schema (State f) line) none told

  pub csv_told : (relation : ℕ) (fault : CsvFault) → IsRefusalLine schema (Csv relation fault) line → fault ≢ csv.NoMemory
  csv_told relation fault told none = subst (λ (f : CsvFault). IsRefusalLine schema (Csv relation f) line) none told

  pub step_told : (fault : StepFault) → IsRefusalLine schema (Steps fault) line → fault ≢ step.NoMemory
  step_told fault told none = subst (λ (f : StepFault). IsRefusalLine schema (Steps f) line) none told

  pub define_told : (fault : DefineFault) → IsRefusalLine schema (Define fault) line → fault ≢ define.NoMemory
  define_told fault told none = subst (λ (f : DefineFault). IsRefusalLine schema (Define f) line) none told

  pub schema_told : (fault : SchemaFault) → IsRefusalLine schema (Define (define.Schema fault)) line → fault ≢ definition.NoMemory
  schema_told fault told none = subst (λ (f : SchemaFault). IsRefusalLine schema (Define (define.Schema f)) line) none told
