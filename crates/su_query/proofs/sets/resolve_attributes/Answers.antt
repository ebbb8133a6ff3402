-- The names so far are known, and the set holds their numbers.
use Rattle.std.proofs.Common.{◌≡◌, ◌∙◌, ◌+◌, ℕ, Some, Option, cond, sym, ap, drop}
use Rattle.std.specs.Prelude.{is_none}
use Rattle.std.specs.FinSet.{insert}
use Rattle.su_schema.specs.Entries.{attribute_names, place_of}
use Rattle.su_query.specs.Scopes.{first_unknown_name}
use Rattle.su_query.proofs.AttributeSets.{named_step, unknown_step}
use Rattle.su_query.proofs.sets.resolve_attributes.Goals as goal

pub loop-name-preserved : goal.loop-name-preserved
loop-name-preserved c =
    let known = attribute_names c.args.schema.now in
    let names = c.args.names.now in
    let i = c.loop-name.name-index in
    let name = c.name-item.result in
    let found : place_of known name ≡ Some c.in-Some.a = ap (place_of known) (sym c.as_str.ensures) ∙ sym c.in-Some.ensures in
    let step = unknown_step known names i name c.loop-name-test.true c.name-item.is in
    let past : first_unknown_name known (drop i names) ≡ first_unknown_name known (drop (i + 1) names) =
    step ∙ ap (λ (o : Option ℕ). cond (is_none o) (Some name) (first_unknown_name known (drop (i + 1) names))) found in
    record {
      named = c.insert-set.ensures ∙ ap (λ s. insert s c.in-Some.a) c.loop-name.invariant.named ∙ named_step c.args.schema.now names i name c.in-Some.a c.loop-name-test.true c.name-item.is found;
      known = sym past ∙ c.loop-name.invariant.known;
    }
