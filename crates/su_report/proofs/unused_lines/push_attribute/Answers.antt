-- The line, and below it an object with the attribute.
use Rattle.std.proofs.Common.{◌≡◌, ◌++◌, ◌∙◌, ◌∷◌, [], List, ℕ, codes, ap}
use Rattle.std.proofs.lemmas.Result.{on_ok_weaker}
use Rattle.su_schema.specs.Entries.{attribute_names}
use Rattle.su_ddl.specs.ShownDefinitions.{name_at}
use Rattle.su_report.specs.Advice.{object_of, advice}
use Rattle.su_report.proofs.Texts.{four_added}
use Rattle.su_report.proofs.unused_lines.push_attribute.Goals as goal

pub returns : goal.returns
returns c =
    let name = name_at (attribute_names c.args.schema.now) c.args.a in
    let names : c.as_slice.result.now ≡ name ∷ [] =
    c.as_slice.ensures ∙ c.in_ok-push.ensures.ok ∙ ap (λ (ns : List (List ℕ)). ns ++ c.in_ok-new.field-0 ∷ []) c.new-names.ensures ∙ ap (λ n. n ∷ []) (c.in_ok-new.ensures ∙ c.attribute_name.ensures) in
    on_ok_weaker c.push_advice.result
    (λ e. four_added c.args.out.now.items (codes "fault attribute ") name (codes " is of no object\n") (advice (object_of (name ∷ []))) c.push-2.new.out.items c.push-3.new.out.items c.push-4.new.out.items c.push_advice.new.out.items c.in_ok-push-2.ensures
    (c.in_ok-push-3.ensures ∙ ap (λ t. c.push-2.new.out.items ++ t) c.attribute_name-2.ensures) c.in_ok-push-4.ensures
    (e ∙ ap (λ d. c.push-4.new.out.items ++ advice d) (c.in_ok-object_of.ensures ∙ ap object_of names)))
    c.push_advice.ensures
