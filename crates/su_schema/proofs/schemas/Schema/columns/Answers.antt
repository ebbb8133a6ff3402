-- The schema shows its relations in the order of their entries, and by its invariant each has at most 32 columns.
use Rattle.std.proofs.Common.{◌≡◌, Some, ap, sym, refl, slice_get}
use Rattle.std.specs.String.{string_bytes}
use Rattle.std.proofs.lemmas.Option.{slice_get-map}
use Rattle.su_schema.specs.Valid.{IsRelationEntry}
use Rattle.su_schema.specs.Maps.{shown}
use Rattle.su_schema.proofs.Entries.{All-at}
use Rattle.su_schema.proofs.schemas.Schema.columns.Goals as goal

pub returns-clause-at : goal.returns-clause-at
returns-clause-at c = rw (← c.self.view_is) (simp slice_get-map (rw (← c.in-Some.ensures.entry) (ap Some (sym c.as_slice.ensures))))

pub returns-clause-few : goal.returns-clause-few
returns-clause-few c =
    let at : slice_get (shown c.self.inside).relations c.args.r ≡ Some (record { name = string_bytes c.in-Some.field-0-0.now; columns = c.in-Some.columns.now }) = simp slice_get-map (rw (← c.in-Some.ensures.entry) refl) in
    rw c.as_slice.ensures (All-at IsRelationEntry _ _ _ c.self.invariant.valid.relations at).few
