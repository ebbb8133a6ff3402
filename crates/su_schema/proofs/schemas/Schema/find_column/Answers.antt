-- The place among the columns is that among their names, which the schema shows.
use Rattle.std.proofs.Common.{Some, ap, sym, ◌∙◌}
use Rattle.std.proofs.lemmas.Option.{slice_get-map}
use Rattle.su_schema.proofs.Entries.{position-map}
use Rattle.su_schema.proofs.schemas.Schema.find_column.Goals as goal

pub returns-in-Some : goal.returns-in-Some
returns-in-Some c = rw (slice_get-map, c.columns.ensures.at) (ap Some (position-map _ _ c.columns.result.now ∙ sym c.in-Some.ensures))

pub returns-in-None : goal.returns-in-None
returns-in-None c = rw (slice_get-map, c.columns.ensures.at) (ap Some (position-map _ _ c.columns.result.now ∙ sym c.in-None.ensures))
