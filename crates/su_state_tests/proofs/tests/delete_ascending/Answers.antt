-- Relation 0 was tested to have two columns, so a condition on two places fits it.
use Rattle.std.proofs.Common.{◌≡◌, ℕ, length, slice_get, Some, subst, sym, ap, ◌∙◌}
use Rattle.su_schema.specs.SchemaValue.{SchemaValue}
use Rattle.su_schema.specs.Entries.{relation_columns}
use Rattle.su_where.specs.Places.{Fits}
use Rattle.su_state.specs.DatabaseValue.{columns_of}
use Rattle.su_state.proofs.Kept.{columns_read}
use Rattle.su_state_tests.proofs.tests.delete_ascending.Goals as goal

pub delete_where-requires-clause-places : goal.delete_where-requires-clause-places
delete_where-requires-clause-places c =
    let at = subst (λ (s : SchemaValue). slice_get (relation_columns s) 0 ≡ Some c.columns.result.now) c.schema-2.ensures c.columns.ensures.at in
    let two : length (columns_of c.args.db.now 0) ≡ 2 = ap length (columns_read c.args.db.now 0 c.columns.result.now at) ∙ c.if-columns-ne2.false in
    subst (λ (n : ℕ). Fits n c.first_is_at_most_second-condition.result) (sym two) c.first_is_at_most_second-condition.ensures
