-- The places so far are those of the refs so far; a place keeps its number when others are added, so the numbers so far are those among all places.
use Rattle.std.proofs.Common.{◌≡◌, ◌+◌, ◌∙◌, ◌++◌, ◌∷◌, [], Bor, Some, List, length, sym, ap, map, take, drop, arith}
use Rattle.std.specs.Prelude.{if◌then◌else◌, position, unwrap_or}
use Rattle.std.specs.List.{list_any}
use Rattle.su_schema.specs.Entries.{attribute_names}
use Rattle.su_schema.specs.Known.{number_of}
use Rattle.su_schema.proofs.Numbers.{known-Some}
use Rattle.su_query.specs.declared.refs.Ref.{Ref}
use Rattle.su_query.specs.declared.places.Place.{Place}
use Rattle.su_query.specs.declared.scopes.Scope.TheVariants.{Attributes}
use Rattle.su_query.specs.Places.{place_in, same_place, places_of, number_in}
use Rattle.su_query.proofs.FirstMentions.{first_mentions-step, first_mentions-few, first_mentions-position}
use Rattle.su_query.proofs.LookedUp.{number_more, known_here}
use Rattle.su_query.proofs.places.place_all.Goals as goal

pub loop-reference-preserved : goal.loop-reference-preserved
loop-reference-preserved c =
    let schema = c.args.schema.now in
    let vs = c.args.variables.now in
    let refs = c.args.references.now in
    let l = c.loop-reference in
    let i = l.reference-index in
    let r = c.reference-item.result in
    let h = c.loop-reference-test.true in
    let number = c.in_ok-number.number in
    let seen = c.note.new.seen in
    let rest : List Ref = map (λ (x : Bor Ref). x.now) (drop (i + 1) refs) in
    let all : List Place = places_of schema vs [] (map (λ (x : Bor Ref). x.now) refs) in
    let attribute : number_of (attribute_names schema) r.now.attribute ≡ c.in-Ok.attribute =
    (known-Some (attribute_names schema) r.now.attribute c.in-Ok.attribute c.in-Ok.ensures.found).1 in
    let variable = c.variable_number-variable.ensures in
    let here : record { variable = c.variable_number-variable.result; attribute = c.in-Ok.attribute } ≡ place_in schema vs r.now = λ j. record { variable = variable j; attribute = sym attribute j } in
    let noted : seen ≡ places_of schema vs l.places (r.now ∷ []) = c.in_ok-number.ensures.seen ∙ ap (λ (p : Place). if list_any (same_place p) l.places then l.places else l.places ++ p ∷ []) here in
    let whole : places_of schema vs seen rest ≡ all = ap (λ s. places_of schema vs s rest) noted ∙ sym (first_mentions-step same_place (place_in schema vs) l.places refs i r h c.reference-item.is) ∙ l.invariant.places in
    let found : position (same_place (place_in schema vs r.now)) seen ≡ Some number = ap (λ (p : Place). position (same_place p) seen) (sym here) ∙ c.in_ok-number.ensures.number in
    let at : position (same_place (place_in schema vs r.now)) all ≡ Some number = ap (position (same_place (place_in schema vs r.now))) (sym whole) ∙ first_mentions-position same_place (same_place (place_in schema vs r.now)) seen (map (place_in schema vs) rest) number found in
    let f = number_in schema Attributes vs all in
    record {
      places = whole;
      few = omega (arith, l.invariant.few, ap length noted, first_mentions-few same_place l.places (place_in schema vs r.now ∷ []));
      numbers = c.in_ok-push.ensures.ok ∙ ap (λ ns. ns ++ number ∷ []) l.invariant.numbers ∙ ap (λ n. map f (map (λ (x : Bor Ref). x.now) (take i refs)) ++ n ∷ []) (sym (ap (λ o. unwrap_or o 0) at)) ∙ sym (number_more refs i r h c.reference-item.is f);
      known = sym (known_here refs i r h c.reference-item.is schema Attributes c.in-Ok.attribute c.in-Ok.ensures.found) ∙ l.invariant.known;
    }
