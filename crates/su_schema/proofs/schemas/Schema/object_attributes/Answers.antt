-- By the invariant the set kept with an object is that of its links' attributes, which is what the schema shows of it.
use Rattle.std.proofs.Common.{Some, ap, sym}
use Rattle.std.proofs.lemmas.Option.{slice_get-map}
use Rattle.su_schema.specs.inside.Kept.{HasItsSet}
use Rattle.su_schema.proofs.Entries.{All-at}
use Rattle.su_schema.proofs.schemas.Schema.object_attributes.Goals as goal

pub returns : goal.returns
returns c =
    rw (← c.self.view_is)
    (simp slice_get-map (rw (← c.in-Some.ensures.entry) (ap Some (sym (All-at HasItsSet _ _ _ c.self.invariant.attribute_sets (sym c.in-Some.ensures.entry))))))
