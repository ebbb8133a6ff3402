-- Sets of attributes, one name or one place more.
use Rattle.std.proofs.Common.{◌≡◌, ◌<◌, ◌+◌, ℕ, true, false, cond, Some, List, [], ◌∷◌, ◌++◌, map, take, drop, length, get_or, sym, ap, ◌∙◌, subst, arith}
use Rattle.std.specs.Prelude.{filter, is_none, ◌==◌}
use Rattle.std.specs.Ordering.{nat_cmp}
use Rattle.std.specs.FinSet.{FinSet, insert, from_list}
use Rattle.std.proofs.lemmas.List.{take_more, map_push, append-nil, at_drop_more, length-map, get_or_default}
use Rattle.std.proofs.lemmas.Bool.Decides.{nat_tests}
use Rattle.std.proofs.lemmas.List.Elements.{filter_more}
use Rattle.su_schema.specs.SchemaValue.{SchemaValue}
use Rattle.su_schema.specs.Valid.{IsValid}
use Rattle.su_schema.specs.Entries.{attribute_names, place_of}
use Rattle.su_schema.specs.Known.{number_of}
use Rattle.su_schema.proofs.Numbers.{known-Some, from_list-push}
use Rattle.su_query.specs.declared.places.Place.{Place}
use Rattle.su_query.specs.Scopes.{first_unknown_name}
use Rattle.su_query.specs.Sets.{attributes_named, mentioned_with}

pub attribute_small : (schema : SchemaValue) (name : List ℕ) (a : ℕ) → IsValid schema → place_of (attribute_names schema) name ≡ Some a → a < 128
attribute_small schema name a valid e =
    omega (arith, (known-Some (attribute_names schema) name a e).2, length-map schema.attributes (λ x. x.name), valid.few_attributes)

-- the names from number i on
pub unknown_step : (known names : List (List ℕ)) (i : ℕ) (name : List ℕ) → i < length names → name ≡ get_or names i name
    → first_unknown_name known (drop i names) ≡ cond (is_none (place_of known name)) (Some name) (first_unknown_name known (drop (i + 1) names))
unknown_step known names i name h e =
    at_drop_more (first_unknown_name known) names i name h ∙ ap (λ n. first_unknown_name known (n ∷ drop (i + 1) names)) (sym e)

pub named_step : (schema : SchemaValue) (names : List (List ℕ)) (i : ℕ) (name : List ℕ) (a : ℕ) → i < length names → name ≡ get_or names i name → place_of (attribute_names schema) name ≡ Some a
    → insert (attributes_named schema (take i names)) a ≡ attributes_named schema (take (i + 1) names)
named_step schema names i name a h e k =
    let number = number_of (attribute_names schema) in
    let more : map number (take (i + 1) names) ≡ map number (take i names) ++ number name ∷ [] =
    ap (map number) (take_more names i name h ∙ ap (λ x. take i names ++ x ∷ []) (sym e)) ∙ map_push number (take i names) name in
    ap (λ n. insert (attributes_named schema (take i names)) n) (sym (known-Some (attribute_names schema) name a k).1) ∙ sym (ap (from_list {R = nat_cmp}) more ∙ from_list-push (map number (take i names)) (number name))

module _ (places : List Place) (variable i : ℕ) (place : Place) (h : i < length places) (e : place ≡ get_or places i place) where
  more : filter (λ p. p.variable == variable) (take (i + 1) places) ≡ filter (λ p. p.variable == variable) (take i places) ++ cond (place.variable == variable) (place ∷ []) []
  more =
      filter_more (λ p. p.variable == variable) places i place h
      ∙ ap (λ (x : Place). filter (λ p. p.variable == variable) (take i places) ++ cond (x.variable == variable) (x ∷ []) []) (sym e)

  pub mentioned_here : (place.variable == variable) ≡ true → insert (mentioned_with (take i places) variable) place.attribute ≡ mentioned_with (take (i + 1) places) variable
  mentioned_here same =
      let before = filter (λ p. p.variable == variable) (take i places) in
      let all = more ∙ ap (λ b. before ++ cond b (place ∷ []) []) same in
      sym (ap (λ ps. from_list {R = nat_cmp} (map (λ p. p.attribute) ps)) all ∙ ap (from_list {R = nat_cmp}) (map_push (λ (p : Place). p.attribute) before place)
      ∙ from_list-push (map (λ p. p.attribute) before) place.attribute)

  pub mentioned_elsewhere : (place.variable == variable) ≡ false → mentioned_with (take i places) variable ≡ mentioned_with (take (i + 1) places) variable
  mentioned_elsewhere other =
      let before = filter (λ p. p.variable == variable) (take i places) in
      let all = more ∙ ap (λ b. before ++ cond b (place ∷ []) []) other ∙ append-nil before in
      sym (ap (λ ps. from_list {R = nat_cmp} (map (λ p. p.attribute) ps)) all)

-- the same for the place that is read from a list equal to the places
module _ (places items : List Place) (variable i : ℕ) (d : Place) (set : FinSet nat_cmp) (e : items ≡ places) (l : i < length items) (s : set ≡ mentioned_with (take i places) variable) where
  within : i < length places
  within = subst (λ (x : List Place). i < length x) e l

  at : get_or items i d ≡ get_or places i (get_or items i d)
  at = ap (λ (x : List Place). get_or x i d) e ∙ get_or_default places i d (get_or items i d) within

  pub one_here : (get_or items i d).variable ≡ variable → insert set (get_or items i d).attribute ≡ mentioned_with (take (i + 1) places) variable
  one_here same =
      let t : ((get_or items i d).variable == variable) ≡ true = grind (arith, nat_tests, same) in
      ap (λ x. insert x (get_or items i d).attribute) s ∙ mentioned_here places variable i (get_or items i d) within at t

  pub one_elsewhere : ((get_or items i d).variable ≡ variable → ⊥) → set ≡ mentioned_with (take (i + 1) places) variable
  one_elsewhere other =
      let t : ((get_or items i d).variable == variable) ≡ false = grind (arith, nat_tests, other) in
      s ∙ mentioned_elsewhere places variable i (get_or items i d) within at t
