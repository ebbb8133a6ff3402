-- The schema shows its entries in their order, so the name of a relation is its entry's key.
use Rattle.std.proofs.Common.{Some, ap, sym}
use Rattle.std.proofs.lemmas.Option.{slice_get-map}
use Rattle.su_schema.proofs.schemas.Schema.relation_name.Goals as goal

pub returns : goal.returns
returns c = rw (← c.self.view_is) (simp slice_get-map (rw (← c.in-Some.ensures.entry) (ap Some (sym c.as_str.ensures.value))))
