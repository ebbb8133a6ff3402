-- The kinds so far are a front of the attributes' kinds, and the next is the one that stands behind it.
use Rattle.std.proofs.Common.{◌∙◌, ap, sym, List, [], ◌∷◌, ◌++◌, take}
use Rattle.std.proofs.lemmas.List.{take_more}
use Rattle.std.proofs.lemmas.Option.{slice_get_within, get_or_from_slice_get}
use Rattle.su_base.specs.declared.values.Kind.{Kind}
use Rattle.su_schema.specs.Entries.{attribute_kinds}
use Rattle.su_session.proofs.certifying.kinds_of.Goals as goal

pub loop-a-preserved : goal.loop-a-preserved
loop-a-preserved c =
    let kinds = attribute_kinds c.args.schema.now in
    let a = c.loop-a.a in
    let kind = c.attribute_kind.result in
    let more = take_more kinds a kind (slice_get_within kinds a kind c.attribute_kind.ensures) in
    let there = get_or_from_slice_get kinds a kind kind c.attribute_kind.ensures in
    (c.in_ok-push.ensures.ok ∙ ap (λ (xs : List Kind). xs ++ kind ∷ []) c.loop-a.invariant.0 ∙ sym (more ∙ ap (λ (k : Kind). take a kinds ++ k ∷ []) there), c.loop-a.invariant.1)
