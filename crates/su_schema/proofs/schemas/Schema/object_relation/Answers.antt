-- An object is shown with the relation that its entry has.
use Rattle.std.proofs.Common.{refl}
use Rattle.std.proofs.lemmas.Option.{slice_get-map}
use Rattle.su_schema.proofs.schemas.Schema.object_relation.Goals as goal

pub returns : goal.returns
returns c = rw (← c.self.view_is) (simp slice_get-map (rw (← c.in-Some.ensures.entry) refl))
