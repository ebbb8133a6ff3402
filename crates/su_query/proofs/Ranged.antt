-- The numbers that names resolve to are in range.
use Rattle.std.proofs.Common.{◌≡◌, ◌<◌, ◌≤◌, ℕ, Bool, true, false, Option, Some, None, List, [], length, get_or, refl, sym, ap, subst, ◌∙◌, arith, All as Each}
use Rattle.std.specs.Prelude.{is_none, option_map, unwrap_or, slice_index_or, position}
use Rattle.std.specs.List.{list_any}
use Rattle.std.specs.Option.{option_or}
use Rattle.std.specs.Str.{bytes_eq}
use Rattle.std.proofs.lemmas.Bool.Decides.{nat_tests}
use Rattle.std.proofs.lemmas.List.{length-map, get_or-map}
use Rattle.std.proofs.lemmas.List.Elements.{All-nil, All-map}
use Rattle.std.proofs.lemmas.Slice.Eq.{bytes_eq-Decides}
use Rattle.su_base.specs.declared.values.Kind.TheVariants.{Int as IntKind}
use Rattle.su_schema.specs.SchemaValue.{SchemaValue}
use Rattle.su_schema.specs.Entries.{attribute_names, attribute_kinds, place_of}
use Rattle.su_schema.specs.Known.{columns_at, number_of}
use Rattle.su_schema.proofs.Numbers.{known-Some}
use Rattle.su_query.specs.declared.refs.Ref.{Ref as ARef}
use Rattle.su_query.specs.declared.places.Place.{Place}
use Rattle.su_query.specs.declared.scopes.Scope.{Scope}
use Rattle.su_query.specs.declared.scopes.Scope.TheVariants.{Attributes, Columns}
use Rattle.su_query.specs.declared.statements.Query.{Query}
use Rattle.su_where.specs.Truth.{comparisons_of}
use Rattle.su_query.specs.Refs.{NamedCond, refs_of}
use Rattle.su_query.specs.Mentions.{same_variable, variables_of, all_refs}
use Rattle.su_query.specs.Limits.{AreFew}
use Rattle.su_query.specs.Scopes.{names_in, kinds_in, first_unknown}
use Rattle.su_query.specs.Places.{place_in, same_place, number_in, places_in}
use Rattle.su_query.specs.NumberedConditions.{resolved_of, with_columns}
use Rattle.su_query.specs.declared.conditions.Comparison.{Comparison}
use Rattle.su_query.specs.declared.faults.QueryFault.{QueryFault}
use Rattle.su_query.specs.declared.faults.QueryFault.TheVariants.{Kinds}
use Rattle.su_query.specs.KindDifferences.{differing_kinds}
use Rattle.su_query.specs.Lookup.{unknown_in, first_fault, IsKnownQuery, IsColumnCondition}
use Rattle.su_query.specs.Ranges.{IsPlaceAmong, place_kinds, IsResolved, IsOnColumns}
use Rattle.su_base.proofs.Items.{All-append_left, All-append_right}
use Rattle.su_query.proofs.Noted.{same_place-refl}
use Rattle.su_query.proofs.FirstMentions.{first_mentions-has, first_mentions-all}
use Rattle.su_query.proofs.Hits.{Hit, hit_any, hit_some, none_mapped}
use Rattle.su_query.proofs.Placed.{few_variables, few_places}
use Rattle.su_query.proofs.Literals.{IsNumbered, typed}

same_variable-refl : (v : Option (List ℕ)) → same_variable v v ≡ true
same_variable-refl None = refl
same_variable-refl (Some v) = (bytes_eq-Decides v v).1 refl

-- ---- names that are known

-- the attribute of the ref isn't among the names
abbrev is_unknown : List (List ℕ) → ARef → Bool
is_unknown names ref = is_none (place_of names ref.attribute)

hit_number : {X : Type 0} (p : X → Bool) (xs : List X) → Hit p xs → unwrap_or (position p xs) 0 < length xs
hit_number p xs h = subst (λ (n : ℕ). n < length xs) (sym (ap (λ o. unwrap_or o 0) h.is)) h.below

pub known_hit : (names : List (List ℕ)) (r : ARef) → is_unknown names r ≡ false → Hit (λ n. bytes_eq r.attribute n) names
known_hit names r e = hit_some (λ n. bytes_eq r.attribute n) names e

known_number : (names : List (List ℕ)) (r : ARef) → is_unknown names r ≡ false → number_of names r.attribute < length names
known_number names r e =
    let h = known_hit names r e in
    subst (λ (n : ℕ). n < length names) (sym (known-Some names r.attribute h.at h.is).1) h.below

all_known : (names : List (List ℕ)) (refs : List ARef) → first_unknown names refs ≡ None → Each (λ r. is_unknown names r ≡ false) refs
all_known names refs e = none_mapped (λ (r : ARef). r.attribute) (λ name. is_none (place_of names name)) refs e

neither : {A B C : Type 0} (f : A → C) (g : B → C) (a : Option A) (b : Option B) → option_or (option_map f a) (option_map g b) ≡ None → (a ≡ None) × (b ≡ None)
neither f g None None e = (refl, refl)
neither f g None (Some y) e = absurd (cc)
neither f g (Some x) b e = absurd (cc)

-- without a fault no name is unknown, and no comparison of two kinds
module _ (schema : SchemaValue) (scope : Scope) (refs : List ARef) (comparisons : List Comparison) where
  faultless : first_fault schema scope refs comparisons ≡ None → (first_unknown (names_in schema scope) refs ≡ None) × (differing_kinds schema scope comparisons ≡ None)
  faultless e = neither (unknown_in scope) (λ k. Kinds k.0 k.1) (first_unknown (names_in schema scope) refs) (differing_kinds schema scope comparisons) e

-- ---- a query

module _ (schema : SchemaValue) (vs : List (Option (List ℕ))) where
  place_among : (r : ARef) → list_any (same_variable r.variable) vs ≡ true → is_unknown (attribute_names schema) r ≡ false → IsPlaceAmong schema vs (place_in schema vs r)
  place_among r h k = record {
    variable = hit_number (same_variable r.variable) vs (hit_any (same_variable r.variable) vs h);
    attribute = subst (λ (n : ℕ). number_of (attribute_names schema) r.attribute < n) (length-map schema.attributes (λ a. a.name)) (known_number (attribute_names schema) r k);
  }

  ref_numbered : (places : List Place) (r : ARef) → list_any (same_place (place_in schema vs r)) places ≡ true → is_unknown (attribute_names schema) r ≡ false
      → IsNumbered schema Attributes (place_kinds schema places) (number_in schema Attributes vs places) r
  ref_numbered places r h k =
      let p = same_place (place_in schema vs r) in
      let hit = hit_any p places h in
      let kind = λ (x : Place). slice_index_or (attribute_kinds schema) x.attribute IntKind in
      let d = place_in schema vs r in
      let e : number_of (attribute_names schema) r.attribute ≡ (get_or places hit.at d).attribute = grind (arith, nat_tests, hit.passes d) in
      record {
        below = subst (λ (n : ℕ). number_in schema Attributes vs places r < n) (sym (length-map places kind)) (hit_number p places hit);
        kind = ap (λ o. slice_index_or (place_kinds schema places) (unwrap_or o 0) IntKind) hit.is ∙ get_or-map kind places hit.at d IntKind hit.below
            ∙ ap (λ n. slice_index_or (attribute_kinds schema) n IntKind) (sym e);
      }

-- where each name is known, the places are in range, and each ref is numbered by its place
module _ (schema : SchemaValue) (q : Query) (known : first_unknown (attribute_names schema) (all_refs q) ≡ None) where
  pub query_places : Each (IsPlaceAmong schema (variables_of q)) (places_in schema q)
  query_places =
      let vs = variables_of q in
      let refs = all_refs q in
      let all = all_known (attribute_names schema) refs known in
      first_mentions-all same_place (place_in schema vs) (IsPlaceAmong schema vs) [] refs (All-nil (IsPlaceAmong schema vs)) (λ k d l. place_among schema vs (get_or refs k d) (first_mentions-has same_variable (λ (r : ARef). r.variable) same_variable-refl [] refs k d l) (all k d l))

  query_numbers : Each (IsNumbered schema Attributes (place_kinds schema (places_in schema q)) (number_in schema Attributes (variables_of q) (places_in schema q))) (all_refs q)
  query_numbers k d l =
      let vs = variables_of q in
      let refs = all_refs q in
      ref_numbered schema vs (places_in schema q) (get_or refs k d) (first_mentions-has same_place (place_in schema vs) same_place-refl [] refs k d l) (all_known (attribute_names schema) refs known k d l)

  pub cond_numbers : Each (IsNumbered schema Attributes (place_kinds schema (places_in schema q)) (number_in schema Attributes (variables_of q) (places_in schema q))) (refs_of q.cond)
  cond_numbers = All-append_right (IsNumbered schema Attributes (place_kinds schema (places_in schema q)) (number_in schema Attributes (variables_of q) (places_in schema q))) q.outputs (refs_of q.cond) query_numbers

pub query_resolved : (schema : SchemaValue) (q : Query) → AreFew q.outputs q.cond → IsKnownQuery schema q → IsResolved schema (resolved_of schema q)
query_resolved schema q few known =
    let vs = variables_of q in
    let places = places_in schema q in
    let kinds = place_kinds schema places in
    let f = number_in schema Attributes vs places in
    let passed = faultless schema Attributes (all_refs q) (comparisons_of q.cond) known in
    let outputs = All-append_left (IsNumbered schema Attributes kinds f) q.outputs (refs_of q.cond) (query_numbers schema q passed.0) in
    let count : length kinds ≡ length places = length-map places (λ p. slice_index_or (attribute_kinds schema) p.attribute IntKind) in
    record {
      few_variables = few_variables q few;
      few_outputs = subst (λ (n : ℕ). n ≤ 128) (sym (length-map q.outputs f)) few.few_outputs;
      few_places = few_places schema vs q few;
      places = query_places schema q passed.0;
      outputs = All-map (λ (o : ℕ). o < length places) f q.outputs (λ k d l. subst (λ (n : ℕ). f (get_or q.outputs k d) < n) count (outputs k d l).below);
      cond = typed schema Attributes kinds f q.cond few.few_comparisons (cond_numbers schema q passed.0) passed.1;
    }

-- ---- a condition on a relation

-- where each name is known, each ref is numbered by its column
pub column_numbers : (schema : SchemaValue) (r : ℕ) (c : NamedCond) → first_unknown (names_in schema (Columns r)) (refs_of c) ≡ None → Each (IsNumbered schema (Columns r) (kinds_in schema (Columns r)) (number_in schema (Columns r) [] [])) (refs_of c)
column_numbers schema r c known k d l =
    let names = names_in schema (Columns r) in
    let ref = get_or (refs_of c) k d in
    let known_ref = all_known names (refs_of c) known k d l in
    let count : length names ≡ length (kinds_in schema (Columns r)) = length-map (columns_at schema r) (λ x. x.name) ∙ sym (length-map (columns_at schema r) (λ x. x.kind)) in
    record {
      below = subst (λ (n : ℕ). number_of names ref.attribute < n) count (known_number names ref known_ref);
      kind = refl;
    }

pub columns_typed : (schema : SchemaValue) (r : ℕ) (c : NamedCond) → length (comparisons_of c) ≤ 256 → IsColumnCondition schema r c → IsOnColumns schema r (with_columns schema r c)
columns_typed schema r c few known =
    let passed = faultless schema (Columns r) (refs_of c) (comparisons_of c) known in
    typed schema (Columns r) (kinds_in schema (Columns r)) (number_in schema (Columns r) [] []) c few (column_numbers schema r c passed.0) passed.1

-- ---- where each name is known, the fault is that of the kinds

module _ (schema : SchemaValue) (scope : Scope) (refs : List ARef) (comparisons : List Comparison) (known : first_unknown (names_in schema scope) refs ≡ None) where
  pub fault_of_kinds : (o : Option QueryFault) → option_map (λ k. Kinds k.0 k.1) (differing_kinds schema scope comparisons) ≡ o → first_fault schema scope refs comparisons ≡ o
  fault_of_kinds o is = ap (λ n. option_or (option_map (unknown_in scope) n) (option_map (λ k. Kinds k.0 k.1) (differing_kinds schema scope comparisons))) known ∙ is
