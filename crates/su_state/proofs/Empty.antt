-- A database without rows is well kept.
use Rattle.std.proofs.Common.{◌≡◌, ◌+◌, ◌<◌, ℕ, List, [], ◌∷◌, ◌++◌, length, map, take, get_or, slice_get, Some, refl, ap, subst, ◌∙◌, Contains, zero, suc, arith}
use lib.ListN.{length-map}
use Rattle.std.proofs.lemmas.List.{take_more}
use Rattle.std.proofs.lemmas.Option.{get_or_from_slice_get, slice_get_within, slice_get-map}
use Rattle.su_base.specs.declared.values.Value.{Value}
use Rattle.su_base.specs.declared.values.Column.{Column}
use Rattle.su_rel.specs.Stored.{Stored}
use Rattle.su_schema.specs.SchemaValue.{SchemaValue}
use Rattle.su_schema.specs.Valid.{IsValid}
use Rattle.su_schema.specs.Entries.{relation_columns}
use Rattle.su_state.specs.DatabaseValue.{DatabaseValue, IsWellKept, rows_of, empty_tables}
use Rattle.su_state.proofs.DifferentRows.{differ_none}

-- a table without rows
abbrev pub empty_table : List Column → Stored
empty_table columns = record { width = length columns; rows = [] }

pub no_rows : (xs : List (List Column)) (r : ℕ) → (get_or (map empty_table xs) r (record { width = 0; rows = [] })).rows ≡ []
no_rows [] r = refl
no_rows (x ∷ xs) zero = refl
no_rows (x ∷ xs) (suc r) = no_rows xs r

pub at_width : (xs : List (List Column)) (r : ℕ) → r < length xs → (get_or (map empty_table xs) r (record { width = 0; rows = [] })).width ≡ length (get_or xs r [])
at_width [] r within = absurd (omega arith)
at_width (x ∷ xs) zero within = refl
at_width (x ∷ xs) (suc r) within = at_width xs r (omega arith)

pub empty_kept : (schema : SchemaValue) → IsValid schema → IsWellKept (record { schema = schema; tables = empty_tables schema })
empty_kept schema valid =
    let db : DatabaseValue = record { schema = schema; tables = empty_tables schema } in
    let none : (r : ℕ) → rows_of db r ≡ [] = λ r. no_rows (relation_columns schema) r in
    record {
      valid = valid;
      tables = length-map (relation_columns schema) empty_table ∙ length-map schema.relations (λ r. r.columns);
      widths = λ r within. at_width (relation_columns schema) r (omega (arith, within, length-map (relation_columns schema) empty_table));
      typed = λ r within. rw (none r) (λ k d h. absurd (omega arith));
      enforced = λ k d h i o w row other stored. let gone : Contains [] row = subst (λ (rows : List (List Value)). Contains rows row) (none _) stored in absurd (let bad : gone.0 < 0 = gone.1 in omega arith);
      few = λ r. rw (none r) (omega arith);
      differ = λ r. rw (none r) differ_none;
    }

-- one more table without rows
pub empty_more : (xs : List (List Column)) (r : ℕ) (columns : List Column) → slice_get xs r ≡ Some columns → take (r + 1) (map empty_table xs) ≡ take r (map empty_table xs) ++ empty_table columns ∷ []
empty_more xs r columns at =
    let there : slice_get (map empty_table xs) r ≡ Some (empty_table columns) = slice_get-map empty_table xs r ∙ rw at refl in
    take_more (map empty_table xs) r (empty_table columns) (slice_get_within (map empty_table xs) r (empty_table columns) there)
    ∙ ap (λ t. take r (map empty_table xs) ++ t ∷ []) (get_or_from_slice_get (map empty_table xs) r (empty_table columns) (empty_table columns) there)

-- a table of this width and without rows
pub table_is : (table : Stored) (columns : List Column) → table.width ≡ length columns → table.rows ≡ [] → table ≡ empty_table columns
table_is table columns w r = λ i. record { width = w i; rows = r i }
