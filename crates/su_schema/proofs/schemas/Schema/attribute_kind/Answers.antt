-- The schema shows its entries in their order, so the kind is read off the entry's own.
use Rattle.std.proofs.Common.{refl}
use Rattle.std.proofs.lemmas.Option.{slice_get-map}
use Rattle.su_schema.proofs.schemas.Schema.attribute_kind.Goals as goal

pub returns : goal.returns
returns c = rw (← c.self.view_is) (simp slice_get-map (rw (← c.in-Some.ensures.entry) refl))
