-- The schema shows its objects in the order of their entries, links and all.
use Rattle.std.proofs.Common.{Some, ap, sym}
use Rattle.std.proofs.lemmas.Option.{slice_get-map}
use Rattle.su_schema.proofs.schemas.Schema.object_column.Goals as goal

pub returns : goal.returns
returns c = rw (← c.self.view_is) (simp slice_get-map (rw (← c.in-Some.ensures.entry) (ap Some (sym c.column.ensures))))
