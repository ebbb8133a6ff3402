-- A place below the number of fields has a field, so it is there to be got.
use Rattle.std.proofs.Common.{[], ◌∙◌, sym}
use Rattle.std.proofs.lemmas.Option.{none-some, slice_get-get_or}
use Rattle.su_csv.proofs.RowSoFar.{field-at}
use Rattle.su_csv.proofs.rows.field_at.Goals as goal

pub unreachable-requires : goal.unreachable-requires
unreachable-requires c = none-some _ (c.in-None.ensures.value ∙ field-at _ _ ∙ slice_get-get_or _ _ [] c.requires)

pub returns : goal.returns
returns c = sym (c.in-Some.ensures.value ∙ field-at _ _)
