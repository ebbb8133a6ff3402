-- What a valid schema and a resolved query give: numbers in range, and sides of one kind.
use Rattle.std.proofs.Common.{◌≡◌, ⊎_elim, ℕ, ◌<◌, ◌≤◌, true, false, List, [], ◌∷◌, map, length, get_or, Contains, refl, sym, ap, ◌∙◌, subst, arith}
use Rattle.std.specs.Prelude.{nat_eq, All, filter, ◌==◌}
use Rattle.std.specs.List.{AllByRecursion, range_with_len}
use Rattle.std.specs.Ordering.{nat_cmp}
use Rattle.std.specs.FinSet.{FinSet, contains, empty, from_list, members, contains-empty, contains-from_list_nat}
use Rattle.std.proofs.lemmas.Bool.{cases_lt, cases_Bool, false≢true, eqb-true}
use Rattle.std.proofs.lemmas.Bool.Decides.{nat_tests}
use Rattle.std.proofs.lemmas.Nat.{mod-mul-add}
use Rattle.std.proofs.lemmas.List.{length-map, get_or-map, get_or_past}
use Rattle.std.proofs.lemmas.List.Elements.{All-contains, All-from_recursion, Contains-get_or}
use Rattle.std.proofs.lemmas.List.Folds.{Any-from_list_any, list_any_at}
use Rattle.std.proofs.lemmas.Option.{slice_get_within}
use Rattle.su_base.specs.declared.values.Kind.TheVariants.{Int as IntKind}
use Rattle.su_base.proofs.Items.{Contains-later, Contains-map, Contains-map_source, Contains-filter, Contains-filter_source, AllByRecursion-contains, AllByRecursion-members, Contains-range, Contains-range_below}
use Rattle.su_where.specs.declared.literals.Operand.{Operand}
use Rattle.su_where.specs.declared.literals.Operand.TheVariants as operand
use Rattle.su_where.specs.declared.literals.Literal.{Literal}
use Rattle.su_where.specs.Places.{IsBelow, HasPlacesBelow}
use Rattle.su_where.specs.Truth.{comparisons_of}
use Rattle.su_where.specs.Disjunct.{disjuncts_of}
use Rattle.su_tableau.specs.Kinds.{sym_kind}
use Rattle.su_schema.specs.SchemaValue.{SchemaValue}
use Rattle.su_schema.proofs.Entries.{blank_object}
use Rattle.su_schema.specs.Valid.{IsValid, IsObject, IsLink}
use Rattle.su_schema.specs.Entries.{attribute_kinds, attributes_of}
use Rattle.su_query.specs.declared.places.Place.{Place}
use Rattle.su_query.specs.declared.resolving.Resolved.{Resolved}
use Rattle.su_query.specs.Ranges.{operand_kind, IsOfOneKind, IsPlaceAmong, IsResolved, place_kinds}
use Rattle.su_query.specs.Sets.{mentioned_with}
use Rattle.su_steps.specs.Objects.{width, attributes_at, objects_of, attributes_of_all}
use Rattle.su_steps.specs.PairSymbols.{SymbolComparison, operand_symbol, compared, comparisons}
use Rattle.su_steps.specs.inside.Ready.{FitLiterals}
use Rattle.su_steps.proofs.Literals.{literals_of}
use Rattle.su_steps.proofs.Raw.{AreWithin}
use Rattle.su_steps.proofs.Shape.{column_kind, HaveOneKind}

-- ---- objects

pub width_is : (schema : SchemaValue) → width schema ≡ length schema.attributes
width_is schema = length-map schema.attributes (λ a. a.kind)

-- a member of a list of numbers, as a set
pub of_set : (ks : List ℕ) (a : ℕ) → contains (from_list {R = nat_cmp} ks) a ≡ true → Contains ks a
of_set ks a h =
    let w = Any-from_list_any (λ y. nat_eq y a) ks (sym (contains-from_list_nat ks a) ∙ h) in
    let e : w.1 ≡ a = eqb-true w.1 a w.4 in
    subst (Contains ks) e (w.0, w.2, w.3)

pub in_set : (ks : List ℕ) (a : ℕ) → Contains ks a → contains (from_list {R = nat_cmp} ks) a ≡ true
in_set ks a c = contains-from_list_nat ks a ∙ list_any_at (λ y. nat_eq y a) ks c.0 a c.1 (let e = c.2 in grind (arith, nat_tests, e))

pub within : (schema : SchemaValue) → IsValid schema → AreWithin schema
within schema valid o a h =
    ⊎_elim
    (λ (l : o < length schema.objects).
    let object = get_or schema.objects o blank_object in
    let is : attributes_at schema o ≡ attributes_of object = get_or-map attributes_of schema.objects o blank_object empty l in
    let has : contains (attributes_of object) a ≡ true = ap (λ s. contains s a) (sym is) ∙ h in
    let w = Contains-map_source (λ l. l.attribute) object.links a (of_set (map (λ l. l.attribute) object.links) a has) in
    let entry : IsObject schema object = valid.objects o blank_object l in
    let link : IsLink schema entry.relation.columns w.0 = All-contains (IsLink schema entry.relation.columns) object.links w.0 entry.joined w.1 in
    let low = slice_get_within schema.attributes w.0.attribute link.0 link.2 in
    let e : w.0.attribute ≡ a = w.2 in
    let n = width_is schema in
    omega arith)
    (λ (g : length schema.objects ≤ o).
    let past : length (map attributes_of schema.objects) ≤ o = (let e = length-map schema.objects attributes_of in omega arith) in
    let none : attributes_at schema o ≡ empty = get_or_past (map attributes_of schema.objects) o empty past in
    absurd (false≢true (sym (contains-empty nat_cmp a) ∙ ap (λ s. contains s a) (sym none) ∙ h)))
    (cases_lt o (length schema.objects))

pub of_objects : (schema : SchemaValue) (m : FinSet nat_cmp) (o : ℕ) → Contains (objects_of schema m) o → (o < length schema.objects) × (contains m o ≡ true)
of_objects schema m o c = let w = Contains-filter_source (contains m) (range_with_len 0 (length schema.objects)) o c in (Contains-range_below (length schema.objects) o w.0, w.1)

pub in_objects : (schema : SchemaValue) (m : FinSet nat_cmp) (o : ℕ) → o < length schema.objects → contains m o ≡ true → Contains (objects_of schema m) o
in_objects schema m o l h = Contains-filter (contains m) (range_with_len 0 (length schema.objects)) o (Contains-range (length schema.objects) o l) h

-- an attribute of objects is one of some object of them
pub of_all : (schema : SchemaValue) (os : List ℕ) (a : ℕ) → contains (attributes_of_all schema os) a ≡ true → (o : ℕ) × Contains os o × (contains (attributes_at schema o) a ≡ true)
of_all schema [] a h = absurd (false≢true (sym (contains-empty nat_cmp a) ∙ h))
of_all schema (o ∷ os) a h =
    ⊎_elim
    (λ (t : contains (attributes_at schema o) a ≡ true). (o, (0, omega arith, refl), t))
    (λ (f : contains (attributes_at schema o) a ≡ false).
    let rest : contains (attributes_of_all schema os) a ≡ true = grind (arith, members, h, f) in
    let w = of_all schema os a rest in
    (w.0, Contains-later o os w.0 w.1, w.2))
    (cases_Bool (contains (attributes_at schema o) a))

-- ---- places

pub mentioned_at : (places : List Place) (p : Place) → Contains places p → contains (mentioned_with places p.variable) p.attribute ≡ true
mentioned_at places p c =
    let same : (p.variable == p.variable) ≡ true = grind (arith, nat_tests) in
    in_set (map (λ p. p.attribute) (filter (λ r. r.variable == p.variable) places)) p.attribute
    (Contains-map (λ p. p.attribute) (filter (λ r. r.variable == p.variable) places) p (Contains-filter (λ r. r.variable == p.variable) places p c same))

abbrev pub no_place : Place
no_place = record { variable = 0; attribute = 0 }

module _ (schema : SchemaValue) (q : Resolved) (resolved : IsResolved schema q) where
  pub place_in : (p : Place) → Contains q.places p → (p.variable < length q.variables) × (p.attribute < width schema)
  place_in p c = let w = All-contains (IsPlaceAmong schema q.variables) q.places p resolved.places c in (w.variable, (let l = w.attribute in let n = width_is schema in omega arith))

  -- the comparisons of the disjuncts
  pub literals_fit : (i : ℕ) → i < length (disjuncts_of q.cond) → FitLiterals schema q (get_or (disjuncts_of q.cond) i [])
  literals_fit i l =
      let d = get_or (disjuncts_of q.cond) i [] in
      let ks = place_kinds schema q.places in
      let count : length ks ≡ length q.places = length-map q.places _ in
      let by : (P : Literal → Type 0) → All P (comparisons_of q.cond) → AllByRecursion P (comparisons_of q.cond) = λ P h. AllByRecursion-members P (comparisons_of q.cond) (λ x c. All-contains P (comparisons_of q.cond) x h c) in
      let at : (P : Literal → Type 0) → AllByRecursion (AllByRecursion P) (disjuncts_of q.cond) → All P d = λ P h. All-from_recursion P d (AllByRecursion-contains (AllByRecursion P) (disjuncts_of q.cond) d h (Contains-get_or (disjuncts_of q.cond) i [] l)) in
      record {
        places = subst (λ n. All (HasPlacesBelow n) d) count (at (HasPlacesBelow (length ks)) (literals_of (HasPlacesBelow (length ks)) (λ l h. h) q.cond (by (HasPlacesBelow (length ks)) resolved.cond.fits)));
        kinds = at (IsOfOneKind ks) (literals_of (IsOfOneKind ks) (λ l h. h) q.cond (by (IsOfOneKind ks) resolved.cond.typed));
      }

  operand_kind_is : (x : Operand) → IsBelow (length q.places) x → sym_kind (column_kind schema) (operand_symbol (width schema) q.places x) ≡ operand_kind (place_kinds schema q.places) x
  operand_kind_is (operand.Const c) h = refl
  operand_kind_is (operand.Place i) h =
      let p = get_or q.places i no_place in
      let low = (place_in p (Contains-get_or q.places i no_place h)).1 in
      ap (λ k. get_or (attribute_kinds schema) k IntKind) (mod-mul-add p.variable (width schema) p.attribute low) ∙ sym (get_or-map (λ (p : Place). get_or (attribute_kinds schema) p.attribute IntKind) q.places i no_place IntKind h)

  pub one_kind : (literals : List Literal) → FitLiterals schema q literals → HaveOneKind schema (comparisons (width schema) q.places literals)
  one_kind literals fit c has e =
      let w = Contains-map_source (compared (width schema) q.places) literals c has in
      let l = w.0 in
      let p = All-contains (HasPlacesBelow (length q.places)) literals l fit.places w.1 in
      let k = All-contains (IsOfOneKind (place_kinds schema q.places)) literals l fit.kinds w.1 in
      let i : (c : SymbolComparison) → compared (width schema) q.places l ≡ c → sym_kind (column_kind schema) c.left ≡ sym_kind (column_kind schema) c.right =
      λ c e. subst (λ (c : SymbolComparison). sym_kind (column_kind schema) c.left ≡ sym_kind (column_kind schema) c.right) e (operand_kind_is l.left p.0 ∙ k ∙ sym (operand_kind_is l.right p.1)) in
      i c w.2
