-- The terms that can be compared.
-- plain: well typed, and without comparisons
use Rattle.std.specs.Prelude.{◌≡◌, ℕ, ◌≤◌, List, [], length, All}
use Rattle.su_tableau.specs.Kinds.{IsTyped}
use Rattle.su_schema.specs.SchemaValue.{SchemaValue}
use Rattle.su_schema.specs.Entries.{attribute_kinds}
use Rattle.su_steps.specs.declared.results.Term.{Term}

-- the tableau is well typed for the kinds of the attributes, has so many outputs and compares nothing
pub record IsPlain (schema : SchemaValue) (outputs : ℕ) (t : Term) : Type 0 where
  pub typed : IsTyped (attribute_kinds schema) t.tableau
  pub outputs_are : t.tableau.outputs ≡ outputs
  pub operators : t.tableau.operators ≡ []

-- at most 256 plain terms each, of one number of outputs
pub record AreComparable (schema : SchemaValue) (first second : List Term) : Type 0 where
  pub outputs : ℕ
  pub few_first : length first ≤ 256
  pub few_second : length second ≤ 256
  pub first_plain : All (IsPlain schema outputs) first
  pub second_plain : All (IsPlain schema outputs) second
