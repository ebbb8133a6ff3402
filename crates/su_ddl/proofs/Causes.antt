-- A refusal of a definition has a cause in the definition: no check answers that memory is wanting.
use Rattle.std.proofs.Common.{◌≡◌, ◌≢◌, ◌⊎◌, inl, inr, ◌+◌, ℕ, true, false, List, [], ◌∷◌, ◌++◌, Option, Some, None, ap, ◌∙◌}
use Rattle.std.specs.Prelude.{if◌then◌else◌, Result, Ok, Err, IfErr}
use Rattle.std.specs.List.{AllByRecursion}
use Rattle.su_base.specs.declared.values.Column.{Column}
use Rattle.su_base.proofs.Items.{AllByRecursion-append}
use Rattle.su_schema.specs.declared.faults.SchemaFault.{SchemaFault}
use Rattle.su_schema.specs.declared.faults.SchemaFault.TheVariants.{NoMemory as Wanting}
use Rattle.su_schema.specs.declared.definitions.Pair.{Pair}
use Rattle.su_schema.specs.declared.definitions.Definition.{Definition}
use Rattle.su_schema.specs.declared.definitions.Definition.TheVariants.{Attribute, Relation, Object, Fd, Maximal}
use Rattle.su_schema.specs.SchemaValue.{SchemaValue}
use Rattle.su_schema.specs.Entries.{attribute_names, column_names, object_names, relation_names}
use Rattle.su_schema.specs.NameChecks.{Check, first_failing, apart_checks, name_checks}
use Rattle.su_schema.specs.Checks.{pair_checks, checks}
use Rattle.su_schema.specs.Known.{columns_at, number_of}
use Rattle.su_schema.specs.Definitions.{outcome}
use Rattle.su_ddl.specs.declared.faults.DdlFault.{DdlFault}
use Rattle.su_ddl.specs.declared.faults.DdlFault.TheVariants.{Syntax, Refused, NoMemory}
use Rattle.su_ddl.specs.Files.{IsAtFault, ReadsFrom, Reads, no_definitions}

abbrev IsNamed : Check → Type 0
IsNamed check = check.fault ≢ Wanting

apart_named : (before names : List (List ℕ)) → AllByRecursion IsNamed (apart_checks before names)
apart_named before [] = tt
apart_named before (n ∷ names) = (λ e. cc, apart_named (before ++ n ∷ []) names)

names_named : (known before names : List (List ℕ)) → AllByRecursion IsNamed (name_checks known before names)
names_named known before [] = tt
names_named known before (n ∷ names) = (λ e. cc, (λ e. cc, names_named known (before ++ n ∷ []) names))

pairs_named : (schema : SchemaValue) (columns : List Column) (before pairs : List Pair) → AllByRecursion IsNamed (pair_checks schema columns before pairs)
pairs_named schema columns before [] = tt
pairs_named schema columns before (p ∷ pairs) = (λ e. cc, (λ e. cc, (λ e. cc, (λ e. cc, (λ e. cc, pairs_named schema columns (before ++ p ∷ []) pairs)))))

all_named : (schema : SchemaValue) (d : Definition) → AllByRecursion IsNamed (checks schema d)
all_named schema (Attribute name kind) = (λ e. cc, (λ e. cc, tt))
all_named schema (Relation name columns) = (λ e. cc, (λ e. cc, (λ e. cc, apart_named [] (column_names columns))))
all_named schema (Object name relation pairs) = (λ e. cc, (λ e. cc, (λ e. cc, pairs_named schema (columns_at schema (number_of (relation_names schema) relation)) [] pairs)))
all_named schema (Fd left right) = (λ e. cc, AllByRecursion-append IsNamed (name_checks (attribute_names schema) [] left) (name_checks (attribute_names schema) [] right) (names_named (attribute_names schema) [] left) (names_named (attribute_names schema) [] right))
all_named schema (Maximal objects) = (λ e. cc, names_named (object_names schema) [] objects)

first_named : (cs : List Check) (f : SchemaFault) → AllByRecursion IsNamed cs → first_failing cs ≡ Some f → f ≢ Wanting
first_named [] f all e = absurd (cc)
first_named (c ∷ cs) f all e =
    elim c.fails as (λ b. (if b then Some c.fault else first_failing cs) ≡ Some f → f ≢ Wanting) [
      | true ↦ λ h n. let same : c.fault ≡ f = cc in all.0 (same ∙ n)
      | false ↦ λ h. first_named cs f all.1 h
    ] e

refusal : (x : Option SchemaFault) (s : SchemaValue) (f : SchemaFault) → outcome x s ≡ Err f → x ≡ Some f
refusal None s f e = absurd (cc)
refusal (Some g) s f e = let h : g ≡ f = cc in ap Some h

fault_named : (n : ℕ) (s : SchemaValue) (t : List ℕ) (f : DdlFault) → IsAtFault n s t f → (m : ℕ) → f ≢ Refused m Wanting
fault_named n s t (Syntax k) h m e = cc
fault_named n s t (Refused k why) h m e =
    let same : why ≡ Wanting = cc in
    first_named (checks s h.1) why (all_named s h.1) (refusal (first_failing (checks s h.1)) _ why h.3) same
fault_named n s t NoMemory h m e = h

reads_named : (n : ℕ) (s : SchemaValue) (ts : List (List ℕ)) (o : Result SchemaValue DdlFault) → ReadsFrom n s ts o → (m : ℕ) → o ≢ Err (Refused m Wanting)
reads_named n s [] o h m e = cc
reads_named n s (t ∷ ts) o (inl (f, h, x)) m e = let same : f ≡ Refused m Wanting = cc in fault_named n s t f h m same
reads_named n s (t ∷ ts) o (inr (d, next, is, a, more)) m e = reads_named (n + 1) next ts o more m e

-- a reader that answers the outcome, or that memory is wanting, never refuses a definition for want of memory
pub never_memory : (file : List ℕ) (x : Result SchemaValue DdlFault) → IfErr x (λ f. (f ≡ NoMemory) ⊎ Reads file (Err f)) → (m : ℕ) → ¬ (x ≡ Err (Refused m Wanting))
never_memory file (Ok s) c m e = cc
never_memory file (Err f) c m e = elim c [ inl k ↦ cc | inr k ↦ reads_named 1 no_definitions _ (Err f) k.2 m e ]
