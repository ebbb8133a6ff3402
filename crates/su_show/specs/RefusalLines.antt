-- The line of a refused statement, by its refusal. The numbers of relations, columns, dependencies, objects and attributes are those of the schema.
-- cause: what stands behind `refused: `
use Rattle.std.specs.Prelude.{◌≡◌, ℕ, List, ◌++◌, codes, Option, Some, None, option_map, IsSomeAnd}
use Rattle.su_base.specs.declared.values.Value.{Value}
use Rattle.su_schema.specs.SchemaValue.{SchemaValue}
use Rattle.su_state.specs.declared.faults.DefineFault.{DefineFault}
use Rattle.su_state.specs.declared.faults.DefineFault.TheVariants as define
use Rattle.su_show.specs.declared.statement_refusal.Refusal.{Refusal}
use Rattle.su_show.specs.declared.statement_refusal.Refusal.TheVariants.{Query, State, Record, Csv, Steps, Answer, Nodes, Define, OnlyEqual, OutputsDiffer, WindowLimit, Inconsistent}
use Rattle.su_show.specs.Refusals.{cause_text}
use Rattle.su_show.specs.Values.{fd_text, row_text, value_text}
use Rattle.su_show.specs.QueryCauses.{query_fault_text, step_text}
use Rattle.su_show.specs.RowCauses.{state_text, record_text, csv_text}

-- why a definition is refused; want of memory has no text
abbrev pub define_text : SchemaValue → DefineFault → Option (List ℕ)
define_text schema (define.Schema fault) = cause_text fault
define_text schema (define.Breaks fd object first second) = Some (codes "breaks " ++ fd_text schema fd ++ codes " with rows " ++ row_text first ++ codes " and " ++ row_text second)
define_text schema define.NoMemory = None

-- two values that the dependencies make equal
abbrev pub inconsistent_text : Value → Value → List ℕ
inconsistent_text less greater = codes "inconsistent " ++ value_text less ++ codes " and " ++ value_text greater

-- why a statement is refused; want of memory has no text
abbrev pub refusal_text : SchemaValue → Refusal → Option (List ℕ)
refusal_text schema (Query fault) = query_fault_text fault
refusal_text schema (State fault) = state_text schema fault
refusal_text schema (Record fault) = option_map (record_text fault.number) (state_text schema fault.fault)
refusal_text schema (Csv relation fault) = csv_text schema relation fault
refusal_text schema (Steps fault) = step_text schema fault
refusal_text schema Answer = Some (codes "limit answer 1000000")
refusal_text schema Nodes = Some (codes "limit nodes 200000")
refusal_text schema (Define fault) = define_text schema fault
refusal_text schema OnlyEqual = Some (codes "only equalities")
refusal_text schema OutputsDiffer = Some (codes "outputs differ")
refusal_text schema WindowLimit = Some (codes "limit window 20000")
refusal_text schema (Inconsistent less greater) = Some (inconsistent_text less greater)

-- the line of a refused statement, which has a text
abbrev pub IsRefusalLine : SchemaValue → Refusal → List ℕ → Type 0
IsRefusalLine schema refusal line = IsSomeAnd (refusal_text schema refusal) (λ text. line ≡ codes "refused: " ++ text ++ codes "\n")
