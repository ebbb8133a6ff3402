-- Each known ref has the number of its place among the places of the query, so outputs and condition over numbers are those over names, in range and of the same kinds.
use Rattle.std.proofs.Common.{◌≡◌, ◌≤◌, ◌<◌, ◌∙◌, ◌++◌, ℕ, Bor, Option, List, [], None, Some, inl, inr, length, map, sym, ap, subst, arith, All as Each}
use Rattle.std.specs.Prelude.{option_map}
use Rattle.std.proofs.lemmas.List.{append-nil, length-map}
use Rattle.su_base.specs.declared.values.Kind.{Kind}
use Rattle.su_schema.specs.SchemaValue.{SchemaValue}
use Rattle.su_schema.specs.Entries.{attribute_names}
use Rattle.su_where.specs.Truth.{comparisons_of}
use Rattle.su_query.specs.declared.refs.Ref.{Ref}
use Rattle.su_query.specs.declared.places.Place.{Place}
use Rattle.su_query.specs.declared.scopes.Scope.TheVariants.{Attributes}
use Rattle.su_query.specs.declared.statements.Query.{Query}
use Rattle.su_query.specs.declared.faults.QueryFault.{QueryFault}
use Rattle.su_query.specs.declared.faults.QueryFault.TheVariants.{Kinds}
use Rattle.su_query.specs.Refs.{refs_of}
use Rattle.su_query.specs.Scopes.{first_unknown}
use Rattle.su_query.specs.Mentions.{mentions, variables_of, all_refs}
use Rattle.su_query.specs.Places.{number_in, places_in}
use Rattle.su_query.specs.NumberedConditions.{resolved_of}
use Rattle.su_query.specs.Lookup.{first_fault}
use Rattle.su_query.specs.Ranges.{place_kinds, IsResolved}
use Rattle.su_query.specs.inside.TwoKinds.{two_kinds}
use Rattle.su_query.proofs.Literals.{fits_here, kinds_here}
use Rattle.su_query.proofs.Placed.{few_variables, few_refs, places_are, numbers_are}
use Rattle.su_query.proofs.Ranged.{query_places, cond_numbers, query_resolved, fault_of_kinds}
use Rattle.su_query.proofs.resolving.resolve.Goals as goal
use Rattle.su_query.proofs.resolving.resolve.Goals.{After-as_slice-4, In-Ok, After-as_slice-6}

-- the number of a ref of the query
abbrev number : SchemaValue → Query → Ref → ℕ
number schema q = number_in schema Attributes (variables_of q) (places_in schema q)

-- the refs and the variables that were read are those of the query
module _ (c : After-as_slice-4) where
  abbrev refs : List Ref
  refs = map (λ (r : Bor Ref). r.now) c.as_slice-4.result.now

  are_refs : refs ≡ all_refs c.args.query.now
  are_refs = ap (map (λ (r : Bor Ref). r.now)) c.as_slice-4.ensures ∙ c.in_ok-refs.ensures ∙ ap (λ (rs : List Ref). rs ++ refs_of c.args.query.now.cond) c.as_slice.ensures

  are_variables : c.as_slice-3.result.now ≡ variables_of c.args.query.now
  are_variables = c.as_slice-3.ensures ∙ c.in_ok-variables.ensures ∙ ap (mentions []) (ap (map (λ (r : Bor Ref). r.now)) (c.as_slice-2.ensures ∙ sym c.as_slice-4.ensures) ∙ are_refs)

-- the refs are known, and their places and numbers are those of the query
module _ (c : In-Ok) where
  abbrev read : After-as_slice-4
  read = (goal.at.numbered_query-requires c).After-as_slice-4

  known : first_unknown (attribute_names c.args.schema.now) (all_refs c.args.query.now) ≡ None
  known = subst (λ (rs : List Ref). first_unknown (attribute_names c.args.schema.now) rs ≡ None) (are_refs read) c.in-Ok.ensures.known

  are_places : c.in-Ok.placed.places ≡ places_in c.args.schema.now c.args.query.now
  are_places = places_are c.args.schema.now c.args.query.now (refs read) (are_refs read) c.as_slice-3.result.now (are_variables read) c.in-Ok.placed.places c.in-Ok.ensures.places

  are_numbers : c.in-Ok.placed.numbers ≡ map (number c.args.schema.now c.args.query.now) (all_refs c.args.query.now)
  are_numbers = numbers_are c.args.schema.now c.args.query.now (refs read) (are_refs read) c.as_slice-3.result.now (are_variables read) c.in-Ok.placed.places c.in-Ok.ensures.places c.in-Ok.placed.numbers c.in-Ok.ensures.numbers

-- the query over numbers is what the names resolve to, and its fault is that of the kinds
module _ (c : After-as_slice-6) where
  abbrev placed : In-Ok
  placed = (goal.at.check-requires c).In-Ok

  are_kinds : c.as_slice-6.result.now ≡ place_kinds c.args.schema.now (places_in c.args.schema.now c.args.query.now)
  are_kinds = c.as_slice-6.ensures ∙ c.in_ok-kinds.ensures ∙ ap (place_kinds c.args.schema.now) (c.as_slice-5.ensures ∙ c.in_ok-resolved.ensures.places ∙ are_places placed)

  is_resolved : record { variables = c.in_ok-resolved.resolved.variables; places = c.in_ok-resolved.resolved.places; outputs = c.in_ok-resolved.resolved.outputs; cond = c.in_ok-resolved.resolved.cond } ≡ resolved_of c.args.schema.now c.args.query.now
  is_resolved = λ i. record {
    variables = (c.in_ok-resolved.ensures.variables ∙ sym c.as_slice-3.ensures ∙ are_variables (read placed)) i;
    places = (c.in_ok-resolved.ensures.places ∙ are_places placed) i;
    outputs = c.in_ok-resolved.ensures.outputs (number c.args.schema.now c.args.query.now) (are_numbers placed) i;
    cond = c.in_ok-resolved.ensures.cond (number c.args.schema.now c.args.query.now) (are_numbers placed) i;
  }

  is_fault : (o : Option QueryFault) → option_map (λ (k : Kind × Kind). Kinds k.0 k.1) (two_kinds c.as_slice-6.result.now (comparisons_of c.in_ok-resolved.resolved.cond)) ≡ o → first_fault c.args.schema.now Attributes (all_refs c.args.query.now) (comparisons_of c.args.query.now.cond) ≡ o
  is_fault o told =
      let schema = c.args.schema.now in
      let q = c.args.query.now in
      let same = kinds_here schema Attributes (place_kinds schema (places_in schema q)) (number schema q) q.cond (cond_numbers schema q (known placed)) c.as_slice-6.result.now are_kinds c.in_ok-resolved.resolved.cond (c.in_ok-resolved.ensures.cond (number schema q) (are_numbers placed)) in
      fault_of_kinds schema Attributes (all_refs q) (comparisons_of q.cond) (known placed) o (ap (option_map (λ (k : Kind × Kind). Kinds k.0 k.1)) (sym same) ∙ told)

pub place_all-requires-clause-variables : goal.place_all-requires-clause-variables
place_all-requires-clause-variables c = subst (λ (x : List (Option (List ℕ))). length x ≤ 8) (sym (are_variables c)) (few_variables c.args.query.now c.requires)

pub place_all-requires-clause-few : goal.place_all-requires-clause-few
place_all-requires-clause-few c = omega (arith, few_refs c.args.query.now c.requires, ap length (are_refs c), length-map c.as_slice-4.result.now (λ (r : Bor Ref). r.now))

pub numbered_query-requires : goal.numbered_query-requires
numbered_query-requires c =
    let f = number c.args.schema.now c.args.query.now in
    (f, [], are_numbers c ∙ sym (append-nil (map f (all_refs c.args.query.now))))

pub kinds_of-requires : goal.kinds_of-requires
kinds_of-requires c =
    let placed = (goal.at.kinds_of-requires c).In-Ok in
    subst (Each (λ (p : Place). p.attribute < length c.args.schema.now.attributes)) (sym (c.as_slice-5.ensures ∙ c.in_ok-resolved.ensures.places ∙ are_places placed)) (λ k d l. (query_places c.args.schema.now c.args.query.now (known placed) k d l).attribute)

pub check-requires : goal.check-requires
check-requires c =
    let schema = c.args.schema.now in
    let q = c.args.query.now in
    fits_here schema Attributes (place_kinds schema (places_in schema q)) (number schema q) q.cond (cond_numbers schema q (known (placed c))) c.as_slice-6.result.now (are_kinds c) c.in_ok-resolved.resolved.cond (c.in_ok-resolved.ensures.cond (number schema q) (are_numbers (placed c)))

pub returns-in-Ok-check-clause-resolved : goal.returns-in-Ok-check-clause-resolved
returns-in-Ok-check-clause-resolved c = is_resolved (goal.at.returns-in-Ok-check-clause-resolved c).After-as_slice-6

pub returns-in-Ok-check-clause-known : goal.returns-in-Ok-check-clause-known
returns-in-Ok-check-clause-known c = is_fault (goal.at.returns-in-Ok-check-clause-known c).After-as_slice-6 None (ap (option_map (λ (k : Kind × Kind). Kinds k.0 k.1)) c.in-Ok-check.ensures.alike)

pub returns-in-Ok-check-clause-in_range : goal.returns-in-Ok-check-clause-in_range
returns-in-Ok-check-clause-in_range c =
    let d = (goal.at.returns-in-Ok-check-clause-in_range c).After-as_slice-6 in
    subst (IsResolved c.args.schema.now) (sym (is_resolved d))
    (query_resolved c.args.schema.now c.args.query.now c.requires (is_fault d None (ap (option_map (λ (k : Kind × Kind). Kinds k.0 k.1)) c.in-Ok-check.ensures.alike)))

pub returns-clause-refused : goal.returns-clause-refused
returns-clause-refused c = elim c.in-Err-check.ensures.refused [
  | inl memory ↦ inl memory
  | inr told ↦ inr (is_fault (goal.at.returns-clause-refused c).After-as_slice-6 (Some c.in-Err-check.fault) told)
]
