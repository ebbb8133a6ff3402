-- The output's kind is read through two lists, that of the outputs for its place and that of the places for its attribute, whose kind it is.
use Rattle.std.proofs.Common.{ℕ, ap, ◌∙◌}
use Rattle.std.specs.Prelude.{slice_index_or}
use Rattle.std.proofs.lemmas.List.{get_or-map}
use Rattle.std.proofs.lemmas.Option.{get_or_from_slice_get, slice_get_within}
use Rattle.su_base.specs.declared.values.Kind.TheVariants.{Int as IntKind}
use Rattle.su_schema.specs.Entries.{attribute_kinds}
use Rattle.su_query.specs.declared.places.Place.{Place}
use Rattle.su_query.specs.Ranges.{place_kinds}
use Rattle.su_compare.proofs.outputs.output_kind.Goals as goal

pub returns : goal.returns
returns c = λ d.
    let q = c.args.query.now in
    let kinds = attribute_kinds c.args.schema.now in
    let o = c.get-output.result.now in
    let p = c.get-place.result.now in
    let of_output = λ (o : ℕ). slice_index_or (place_kinds c.args.schema.now q.places) o IntKind in
    let of_place = λ (p : Place). slice_index_or kinds p.attribute IntKind in
    get_or-map of_output q.outputs c.args.i o d c.requires.output ∙ ap of_output (get_or_from_slice_get q.outputs c.args.i o o c.get-output.ensures)
    ∙ get_or-map of_place q.places o p IntKind (slice_get_within q.places o p c.get-place.ensures) ∙ ap of_place (get_or_from_slice_get q.places o p p c.get-place.ensures)
    ∙ get_or_from_slice_get kinds p.attribute c.attribute_kind.result IntKind c.attribute_kind.ensures
