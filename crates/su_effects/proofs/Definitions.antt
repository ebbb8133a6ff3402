-- A definition leaves the rows, as a relation that is new has none, and stands behind the schema.
use Rattle.std.proofs.Common.{◌≡◌, ℕ, List, [], ◌∷◌, Option, Some, None, Ok, refl, sym, ap, ◌∙◌, subst, Contains}
use Rattle.su_base.specs.declared.values.Value.{Value}
use Rattle.su_rel.specs.Stored.{Stored}
use Rattle.su_index.specs.Tables.{rows_at}
use Rattle.su_schema.specs.declared.definitions.Definition.{Definition}
use Rattle.su_schema.specs.declared.definitions.Definition.TheVariants.{Attribute, Relation, Object, Fd, Maximal}
use Rattle.su_schema.specs.declared.faults.SchemaFault.{SchemaFault}
use Rattle.su_schema.specs.SchemaValue.{SchemaValue}
use Rattle.su_schema.specs.Checks.{checks}
use Rattle.su_schema.specs.NameChecks.{first_failing}
use Rattle.su_schema.specs.Definitions.{extended, outcome}
use Rattle.su_state.specs.DatabaseValue.{DatabaseValue, rows_of}
use Rattle.su_state.specs.Definitions.{tables_with, Defines}
use Rattle.su_state.proofs.Added.{rows_more}
use Rattle.su_changes.specs.Changes.{LeadTo}
use Rattle.su_changes.specs.Extensions.{IsExtension}
use Rattle.su_changes.proofs.Extending.{IsExtension-one}

same_rows : (definition : Definition) (t : List Stored) (r : ℕ) → rows_at (tables_with definition t) r ≡ rows_at t r
same_rows (Relation name columns) t r = rows_more t (columns ∷ []) r
same_rows (Attribute name kind) t r = refl
same_rows (Object own relation pairs) t r = refl
same_rows (Fd left right) t r = refl
same_rows (Maximal objects) t r = refl

pub defined_leads : (db new : DatabaseValue) (definition : Definition) (unit : Unit {0}) → Defines db definition (Ok unit) new → LeadTo db [] new
defined_leads db new definition unit defines = λ r row.
    let same : rows_of new r ≡ rows_of db r = ap (λ (t : List Stored). rows_at t r) defines.1 ∙ same_rows definition db.tables r in
    (λ has. subst (λ (rows : List (List Value)). Contains rows row) same has, λ has. subst (λ (rows : List (List Value)). Contains rows row) (sym same) has)

-- what is applied is the schema with the definition behind it
outcome_ok : (fault : Option SchemaFault) (next new : SchemaValue) → outcome fault next ≡ Ok new → new ≡ next
outcome_ok None next new same = cc
outcome_ok (Some fault) next new same = absurd cc

pub defined_extends : (db new : DatabaseValue) (definition : Definition) (unit : Unit {0}) → Defines db definition (Ok unit) new → IsExtension db.schema new.schema
defined_extends db new definition unit defines =
    let next : SchemaValue = extended db.schema definition in
    subst (λ (s : SchemaValue). IsExtension db.schema s) (sym (outcome_ok (first_failing (checks db.schema definition)) next new.schema defines.0)) (IsExtension-one db.schema definition)
