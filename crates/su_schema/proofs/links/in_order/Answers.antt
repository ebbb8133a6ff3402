-- The list so far has the links whose attributes are below the next number, in ascending order; each attribute adds the link found for it, or none.
use Rattle.std.proofs.Common.{◌≡◌, ◌+◌, ap, sym, ◌∙◌, ◌++◌, ◌∷◌, []}
use Rattle.su_schema.specs.Definitions.{ascending}
use Rattle.su_schema.proofs.LinkOrder.{ascending-Some, ascending-None}
use Rattle.su_schema.proofs.links.in_order.Goals.{in-Some+in_ok-push, in_default}
use Rattle.su_schema.proofs.links.in_order.Goals as goal

pub loop-attribute-preserved : goal.loop-attribute-preserved
loop-attribute-preserved c =
    elim c.match-link_of.branch [
      | in-Some+in_ok-push w ↦
          let more : c.match-link_of.ordered ≡ ascending (c.loop-attribute.attribute + 1) c.args.links.now =
          w.ordered-is ∙ w.in_ok-push.ensures.ok ∙ ap (λ ls. ls ++ w.in-Some.link.now ∷ []) c.loop-attribute.invariant
          ∙ sym (ascending-Some c.args.links.now c.loop-attribute.attribute w.in-Some.link.now w.in-Some.ensures) in
          more
      | in_default w ↦
          let same : c.match-link_of.ordered ≡ ascending (c.loop-attribute.attribute + 1) c.args.links.now =
          w.ordered-is ∙ c.loop-attribute.invariant ∙ sym (ascending-None c.args.links.now c.loop-attribute.attribute w.in_default.ensures) in
          same
    ]
