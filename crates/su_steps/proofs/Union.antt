-- The union over the terms is the expression.
use Rattle.std.proofs.Common.{◌≡◌, ◌↔◌, ⊎_elim, ℕ, ◌+◌, ◌*◌, ◌<◌, true, pos, List, [], ◌∷◌, ◌++◌, map, length, get_or, Contains, refl, sym, ap, ◌∙◌, subst, arith, None}
use Rattle.std.specs.Prelude.{IsTrue}
use Rattle.std.specs.List.{AllByRecursion, range_with_len}
use Rattle.std.specs.Ordering.{nat_cmp}
use Rattle.std.specs.FinSet.{FinSet, contains, empty}
use Rattle.std.proofs.lemmas.Bool.{and_parts}
use Rattle.std.proofs.lemmas.List.{length-map, get_or-map, get_or_default}
use Rattle.std.proofs.lemmas.List.Elements.{All-contains, Contains-get_or}
use Rattle.std.proofs.lemmas.List.Folds.{Any-from_list_any, list_any_at}
use Rattle.su_base.specs.declared.values.Value.{Value}
use Rattle.su_base.specs.declared.values.Value.TheVariants.{Int}
use Rattle.su_base.proofs.Items.{Contains-later, Contains-cases, Contains-nil, Contains-map, Contains-map_source, Contains-flat_map, Contains-flat_map_source, AllByRecursion-contains, AllByRecursion-members, Contains-range, Contains-range_below, map-map_equal}
use Rattle.su_where.specs.declared.literals.Operand.{Operand}
use Rattle.su_where.specs.declared.literals.Operand.TheVariants as operand
use Rattle.su_where.specs.declared.literals.Literal.{Literal}
use Rattle.su_where.specs.Operator.{compares}
use Rattle.su_where.specs.Truth as truth
use Rattle.su_where.specs.Places.{IsBelow, HasPlacesBelow}
use Rattle.su_where.specs.Disjunct.{disjuncts_of, all_hold}
use Rattle.su_where.proofs.DisjunctTruth.{keeps_truth}
use Rattle.su_tableau.specs.declared.symbols.Sym.{Sym}
use Rattle.su_tableau.specs.Tableaux.{Tab}
use Rattle.su_tableau.specs.Valuations.{value_of, values_of, Ext, Cut}
use Rattle.su_tableau.specs.Kinds.{IsUniverse, IsTyped}
use Rattle.su_schema.specs.SchemaValue.{SchemaValue}
use Rattle.su_schema.specs.Entries.{attribute_kinds}
use Rattle.su_query.specs.declared.places.Place.{Place}
use Rattle.su_query.specs.declared.resolving.Resolved.{Resolved}
use Rattle.su_query.specs.Ranges.{IsResolved}
use Rattle.su_steps.specs.declared.results.Term.{Term}
use Rattle.su_query.specs.Sets.{mentioned_with}
use Rattle.su_steps.specs.Objects.{width, attributes_at, objects_of, covers}
use Rattle.su_steps.specs.Expression.{cut, cuts, Meets, place_values, InExpression}
use Rattle.su_steps.specs.Choices.{choices, chosen_objects, origins_of}
use Rattle.su_steps.specs.PairSymbols.{SymbolComparison, place_symbol, operand_symbol, comparisons}
use Rattle.su_steps.specs.Evaluated.{left_over, sides}
use Rattle.su_steps.specs.CaseTableaux.{rows_of, tableau_of}
use Rattle.su_steps.specs.Cases.{HaveTableau, Case, comparisons_of, Gives, IsOutOf}
use Rattle.su_steps.specs.Terms.{case_of, cases, AreTerms, InUnion}
use Rattle.su_steps.specs.inside.Ready.{IsChoice}
use Rattle.su_steps.proofs.Cells.{raw_rows}
use Rattle.su_steps.proofs.Raw.{AreWithin, AllTrue, pair_value, InLists, RawAnswer}
use Rattle.su_steps.proofs.Valuations.{choice_law, pair_at}
use Rattle.su_steps.proofs.ClassNames.{CutBy, NamedAnswer, to_named, not_contradictory, from_named}
use Rattle.su_steps.proofs.Cuts.{to_cut, from_cut}
use Rattle.su_steps.proofs.Shape.{own_name, rows_named, tableau_typed}
use Rattle.su_steps.proofs.Valid.{head_length}
use Rattle.su_steps.proofs.ResolvedQueries.{in_objects, of_objects, no_place, place_in, literals_fit, one_kind}
use Rattle.su_steps.proofs.Chosen.{pick, choice_of, of_choice, objects_count, objects_at, shown, pairs_below}
use Rattle.su_steps.proofs.Outs.{AreInTurn, terms_of}

module _ (schema : SchemaValue) (maximal : List (FinSet nat_cmp)) (q : Resolved) (resolved : IsResolved schema q) (fit : AreWithin schema) where
  abbrev n : ℕ
  n = width schema

  abbrev outputs : List Sym
  outputs = map (place_symbol n q.places) q.outputs

  -- a disjunct and a choice of the query
  pub record IsCase (case : Case) : Type 0 where
    pub disjunct_in : case.disjunct < length (disjuncts_of q.cond)
    pub is_choice : IsChoice schema maximal q case.choice

  pub of_cases : (case : Case) → Contains (cases schema maximal q) case → IsCase case
  of_cases case has =
      let w = Contains-flat_map_source (λ i. map (case_of i) (choices schema maximal q)) (range_with_len 0 (length (disjuncts_of q.cond))) case has in
      let u = Contains-map_source (case_of w.0) (choices schema maximal q) case w.2 in
      let count : ℕ = length (disjuncts_of q.cond) in
      let in' : w.0 < count = Contains-range_below count w.0 w.1 in
      subst IsCase u.2 (record { disjunct_in = in'; is_choice = choice_of schema maximal q u.0 u.1 })

  in_cases : (i : ℕ) (choice : List ℕ) → i < length (disjuncts_of q.cond) → IsChoice schema maximal q choice → Contains (cases schema maximal q) (case_of i choice)
  in_cases i choice l r =
      Contains-flat_map (λ i. map (case_of i) (choices schema maximal q)) (range_with_len 0 (length (disjuncts_of q.cond))) i (case_of i choice) (Contains-range (length (disjuncts_of q.cond)) i l)
      (Contains-map (case_of i) (choices schema maximal q) choice (of_choice schema maximal q choice r))

  -- ---- one case

  module _ (universe : List (List Value)) (h : List Value) where
    abbrev RawOf : Case → Type 0
    RawOf case = RawAnswer schema universe (chosen_objects schema maximal case.choice) outputs (comparisons_of schema q case.disjunct) h

    abbrev CutOf : Tab → Type 0
    CutOf t = Cut t (Ext t universe) h

    module _ (case : Case) (is : IsCase case) (t : Tab) (has : HaveTableau schema q (origins_of schema maximal case.choice) (comparisons_of schema q case.disjunct) t) where
      abbrev d : List SymbolComparison
      d = comparisons_of schema q case.disjunct

      rows_are : map (map has.name) (raw_rows schema (length (chosen_objects schema maximal case.choice) * n) (origins_of schema maximal case.choice)) ≡ rows_of schema has.name (length q.variables * n) (origins_of schema maximal case.choice)
      rows_are =
          let fits = literals_fit schema q resolved case.disjunct is.disjunct_in in
          let below = pairs_below schema maximal q case.choice is.is_choice resolved fit _ fits in
          let count = objects_count schema maximal q case.choice is.is_choice in
          ap (λ k. map (map has.name) (raw_rows schema (k * n) (origins_of schema maximal case.choice))) count
          ∙ rows_named schema has.name (length q.variables * n) (λ p l. own_name schema (origins_of schema maximal case.choice) d has.name (length q.variables * n) p has.naming below l)
          (length q.variables * n) (origins_of schema maximal case.choice) (omega arith)

      outputs_are : map has.name outputs ≡ map (λ i. has.name (place_symbol n q.places i)) q.outputs
      outputs_are = map-map_equal (place_symbol n q.places) has.name (λ i. has.name (place_symbol n q.places i)) (λ i. refl) q.outputs

      abbrev Named : Type 0
      Named = NamedAnswer schema universe (chosen_objects schema maximal case.choice) outputs d has.name h

      abbrev made : Tab
      made = tableau_of schema q has.name (origins_of schema maximal case.choice) d

      to_made : Named → CutBy made.rows made.head made.outputs made.operators universe h
      to_made c =
          subst (λ k. CutBy made.rows made.head k made.operators universe h) (length-map q.outputs (place_symbol n q.places))
          (subst (λ xs. CutBy made.rows (xs ++ sides (left_over has.name d)) (length outputs) made.operators universe h) outputs_are
          (subst (λ rows. CutBy rows (map has.name outputs ++ sides (left_over has.name d)) (length outputs) made.operators universe h) rows_are c))

      from_made : CutBy made.rows made.head made.outputs made.operators universe h → Named
      from_made c =
          subst (λ rows. CutBy rows (map has.name outputs ++ sides (left_over has.name d)) (length outputs) made.operators universe h) (sym rows_are)
          (subst (λ xs. CutBy made.rows (xs ++ sides (left_over has.name d)) (length outputs) made.operators universe h) (sym outputs_are)
          (subst (λ k. CutBy made.rows made.head k made.operators universe h) (sym (length-map q.outputs (place_symbol n q.places))) c))

      pub case_to : Meets schema.fds universe → RawOf case → CutOf t
      case_to meets r =
          subst CutOf (sym has.is)
          (to_cut made universe h (to_made (to_named schema universe (chosen_objects schema maximal case.choice) outputs d has.name has.naming h meets fit r)))

      pub case_from : CutOf t → RawOf case
      case_from c =
          let long = head_length has.name (map (λ i. has.name (place_symbol n q.places i)) q.outputs) (length q.outputs) d (length-map q.outputs (λ i. has.name (place_symbol n q.places i))) in
          from_named schema universe (chosen_objects schema maximal case.choice) outputs d has.name has.naming h has.consistent
          (from_made (from_cut made universe h long (subst CutOf has.is c)))

    -- ---- the union over the cases

    in_more : (t : Term) (rest ts : List Term) → ts ≡ t ∷ rest → InUnion rest universe h → InUnion ts universe h
    in_more t rest ts e u = (u.0, subst (λ xs. Contains xs u.0) (sym e) (Contains-later t rest u.0 u.1), u.2)

    union_to : Meets schema.fds universe → (cs : List Case) (ts : List Term) → AllByRecursion IsCase cs → AreInTurn schema maximal q cs ts → (c : Case) → Contains cs c → RawOf c → InUnion ts universe h
    union_to meets [] ts are terms c has r = absurd (Contains-nil c has)
    union_to meets (x ∷ xs) ts are terms c has r =
        ⊎_elim
        (λ (none : IsOutOf schema maximal q x None × AreInTurn schema maximal q xs ts).
        ⊎_elim
        (λ (e : x ≡ c). absurd (not_contradictory schema universe (chosen_objects schema maximal x.choice) outputs (comparisons_of schema q x.disjunct) none.0.name none.0.naming h meets fit (subst RawOf (sym e) r) none.0.contradictory))
        (λ (later : Contains xs c). union_to meets xs ts are.1 none.1 c later r)
        (Contains-cases x xs c has))
        (λ (some : (t : Term) × (rest : List Term) × (ts ≡ t ∷ rest) × Gives schema maximal q x t × AreInTurn schema maximal q xs rest).
        ⊎_elim
        (λ (e : x ≡ c). (some.0, subst (λ us. Contains us some.0) (sym some.2) (0, omega arith, refl), case_to x are.0 some.0.tableau some.3.tableau meets (subst RawOf (sym e) r)))
        (λ (later : Contains xs c). in_more some.0 some.1 ts some.2 (union_to meets xs some.1 are.1 some.4 c later r))
        (Contains-cases x xs c has))
        terms

    union_from : (cs : List Case) (ts : List Term) → AllByRecursion IsCase cs → AreInTurn schema maximal q cs ts → InUnion ts universe h → (c : Case) × Contains cs c × RawOf c
    union_from [] ts are terms u = absurd (Contains-nil u.0 (subst (λ xs. Contains xs u.0) terms u.1))
    union_from (x ∷ xs) ts are terms u =
        ⊎_elim
        (λ (none : IsOutOf schema maximal q x None × AreInTurn schema maximal q xs ts). let w = union_from xs ts are.1 none.1 u in (w.0, Contains-later x xs w.0 w.1, w.2))
        (λ (some : (t : Term) × (rest : List Term) × (ts ≡ t ∷ rest) × Gives schema maximal q x t × AreInTurn schema maximal q xs rest).
        ⊎_elim
        (λ (e : some.0 ≡ u.0). (x, (0, omega arith, refl), case_from x are.0 some.0.tableau some.3.tableau (subst (λ (t : Term). CutOf t.tableau) (sym e) u.2)))
        (λ (later : Contains some.1 u.0). let w = union_from xs some.1 are.1 some.4 (u.0, later, u.2) in (w.0, Contains-later x xs w.0 w.1, w.2))
        (Contains-cases some.0 some.1 u.0 (subst (λ us. Contains us u.0) some.2 u.1)))
        terms

    all_cases : AllByRecursion IsCase (cases schema maximal q)
    all_cases = AllByRecursion-members IsCase (cases schema maximal q) of_cases

    -- ---- lists of values and the condition

    module _ (lists : ℕ → List Value) where
      operand_value : (x : Operand) → IsBelow (length q.places) x → truth.value_of_operand x (place_values lists q.places) ≡ value_of (pair_value n lists) (operand_symbol n q.places x)
      operand_value (operand.Const c) l = refl
      operand_value (operand.Place i) l =
          let p = get_or q.places i no_place in
          let low = (place_in schema q resolved p (Contains-get_or q.places i no_place l)).1 in
          get_or-map (λ (p : Place). get_or (lists p.variable) p.attribute (Int (pos 0))) q.places i no_place (Int (pos 0)) l ∙ sym (pair_at n lists p.variable p.attribute low)

      literal_holds : (l : Literal) → HasPlacesBelow (length q.places) l → truth.holds l (place_values lists q.places) ≡ compares l.op (value_of (pair_value n lists) (operand_symbol n q.places l.left)) (value_of (pair_value n lists) (operand_symbol n q.places l.right))
      literal_holds l b =
          ap (λ x. compares l.op x (truth.value_of_operand l.right (place_values lists q.places))) (operand_value l.left b.0) ∙ ap (compares l.op (value_of (pair_value n lists) (operand_symbol n q.places l.left))) (operand_value l.right b.1)

      all_from : (ls : List Literal) → AllByRecursion (HasPlacesBelow (length q.places)) ls → AllTrue (pair_value n lists) (comparisons n q.places ls) → all_hold ls (place_values lists q.places) ≡ true
      all_from [] b t = refl
      all_from (l ∷ ls) b t = let i = all_from ls b.1 t.1 in let j = literal_holds l b.0 ∙ t.0 in cc

      all_to : (ls : List Literal) → AllByRecursion (HasPlacesBelow (length q.places)) ls → all_hold ls (place_values lists q.places) ≡ true → AllTrue (pair_value n lists) (comparisons n q.places ls)
      all_to [] b t = tt
      all_to (l ∷ ls) b t =
          let w = and_parts (truth.holds l (place_values lists q.places)) (all_hold ls (place_values lists q.places)) t in
          (sym (literal_holds l b.0) ∙ w.0, all_to ls b.1 w.1)

      outputs_value : (os : List ℕ) → AllByRecursion (λ o. o < length q.places) os → values_of (pair_value n lists) (map (place_symbol n q.places) os) ≡ map (λ i. get_or (place_values lists q.places) i (Int (pos 0))) os
      outputs_value [] b = refl
      outputs_value (o ∷ os) b = let i = outputs_value os b.1 in let j = operand_value (operand.Place o) b.0 in cc

    places_below : (i : ℕ) → i < length (disjuncts_of q.cond) → AllByRecursion (HasPlacesBelow (length q.places)) (get_or (disjuncts_of q.cond) i [])
    places_below i l =
        let d = get_or (disjuncts_of q.cond) i [] in
        let fits = literals_fit schema q resolved i l in
        AllByRecursion-members (HasPlacesBelow (length q.places)) d (λ x c. All-contains (HasPlacesBelow (length q.places)) d x fits.places c)

    outputs_below : AllByRecursion (λ o. o < length q.places) q.outputs
    outputs_below = AllByRecursion-members (λ o. o < length q.places) q.outputs (λ x c. All-contains (λ o. o < length q.places) q.outputs x resolved.outputs c)

    module _ (typed : IsUniverse (attribute_kinds schema) universe) where
      from_lists : (case : Case) → IsCase case → InLists schema universe (chosen_objects schema maximal case.choice) outputs (comparisons_of schema q case.disjunct) h → InExpression schema maximal q (cuts schema universe) h
      from_lists case is e =
          let count = objects_count schema maximal q case.choice is.is_choice in
          let per = is.is_choice.one_per_variable in
          let ds = disjuncts_of q.cond in
          let d = get_or ds case.disjunct [] in
          let values = place_values e.lists q.places in
          let true' = all_from e.lists d (places_below case.disjunct is.disjunct_in) e.holds in
          record {
            chosen = λ v. get_or maximal (get_or case.choice v 0) empty;
            lists = e.lists;
            is_maximal = λ v l. Contains-get_or maximal (get_or case.choice v 0) empty (is.is_choice.in_range v 0 (omega arith));
            covering = is.is_choice.covering;
            typed = λ v l. e.typed v (omega arith);
            within = λ v o l k m.
                let at = subst (AllByRecursion (λ o. Contains (cuts schema universe o) (cut (attributes_at schema o) (e.lists v)))) (objects_at schema maximal q case.choice is.is_choice v l) (e.within v (omega arith)) in
                AllByRecursion-contains (λ o. Contains (cuts schema universe o) (cut (attributes_at schema o) (e.lists v))) (objects_of schema (get_or maximal (get_or case.choice v 0) empty)) o at (in_objects schema (get_or maximal (get_or case.choice v 0) empty) o k m);
            holds = keeps_truth q.cond values ∙ list_any_at (λ d. all_hold d values) ds case.disjunct d is.disjunct_in (ap (λ e. all_hold e values) (get_or_default ds case.disjunct d [] is.disjunct_in) ∙ true');
            gives = sym (outputs_value e.lists q.outputs outputs_below) ∙ e.gives;
          }

      -- a disjunct and a choice for an answer of the expression
      pub record FoundCase : Type 0 where
        pub case : Case
        pub is : IsCase case
        pub lists : InLists schema universe (chosen_objects schema maximal case.choice) outputs (comparisons_of schema q case.disjunct) h

      to_lists : InExpression schema maximal q (cuts schema universe) h → FoundCase
      to_lists e =
          let ds = disjuncts_of q.cond in
          let values = place_values e.lists q.places in
          let w = Any-from_list_any (λ d. all_hold d values) ds (sym (keeps_truth q.cond values) ∙ e.holds) in
          let i = w.0 in
          let d = get_or ds i [] in
          let same : d ≡ w.1 = get_or_default ds i [] w.1 w.2 ∙ w.3 in
          let true' : all_hold d values ≡ true = ap (λ d. all_hold d values) same ∙ w.4 in
          let picked = pick (λ v m. (m < length maximal) × (get_or maximal m empty ≡ e.chosen v)) (length q.variables) (λ v l. let c = e.is_maximal v l in (c.0, (c.1, get_or_default maximal c.0 empty (e.chosen v) c.1 ∙ c.2))) in
          let choice = picked.0 in
          let per : length choice ≡ length q.variables = picked.1 in
          let is_choice : IsChoice schema maximal q choice = record {
            one_per_variable = per;
            in_range = λ v d l. subst (λ m. m < length maximal) (get_or_default choice v 0 d l) (picked.2 v (omega arith)).0;
            covering = λ v l. subst (λ m. IsTrue (covers schema m (mentioned_with q.places v))) (sym (picked.2 v l).1) (e.covering v l);
          } in
          let is : IsCase (case_of i choice) = record { disjunct_in = w.2; is_choice = is_choice } in
          let count = objects_count schema maximal q choice is_choice in
          record {
            case = case_of i choice;
            is = is;
            lists = record {
              lists = e.lists;
              typed = λ v l. e.typed v (omega arith);
              within = λ v l.
                  let k : v < length q.variables = omega arith in
                  let set = get_or maximal (get_or choice v 0) empty in
                  subst (AllByRecursion (λ o. Contains (cuts schema universe o) (cut (attributes_at schema o) (e.lists v)))) (sym (objects_at schema maximal q choice is_choice v k))
                  (AllByRecursion-members (λ o. Contains (cuts schema universe o) (cut (attributes_at schema o) (e.lists v))) (objects_of schema set)
                  (λ o c. let r = of_objects schema set o c in e.within v o k r.0 (ap (λ s. contains s o) (sym (picked.2 v k).1) ∙ r.1)));
              holds = all_to e.lists d (places_below i w.2) true';
              gives = outputs_value e.lists q.outputs outputs_below ∙ e.gives;
            };
          }

      pub union_law : Meets schema.fds universe → (ts : List Term) → AreTerms schema maximal q ts → (InUnion ts universe h ↔ InExpression schema maximal q (cuts schema universe) h)
      union_law meets ts terms = (
        λ u.
            let w = union_from (cases schema maximal q) ts all_cases (terms_of schema maximal q ts terms) u in
            let is = of_cases w.0 w.1 in
            let fits = literals_fit schema q resolved w.0.disjunct is.disjunct_in in
            from_lists w.0 is ((choice_law schema universe (chosen_objects schema maximal w.0.choice) outputs (comparisons_of schema q w.0.disjunct) h typed fit (shown schema maximal q w.0.choice is.is_choice resolved fit _ fits)).0 w.2),
        λ e.
            let f = to_lists e in
            let fits = literals_fit schema q resolved f.case.disjunct f.is.disjunct_in in
            union_to meets (cases schema maximal q) ts all_cases (terms_of schema maximal q ts terms) f.case (in_cases f.case.disjunct f.case.choice f.is.disjunct_in f.is.is_choice)
            ((choice_law schema universe (chosen_objects schema maximal f.case.choice) outputs (comparisons_of schema q f.case.disjunct) h typed fit (shown schema maximal q f.case.choice f.is.is_choice resolved fit _ fits)).1 f.lists),
      )

  -- ---- the terms are well typed

  pub typed_of : (cs : List Case) (ts : List Term) → AllByRecursion IsCase cs → AreInTurn schema maximal q cs ts → AllByRecursion (λ (t : Term). IsTyped (attribute_kinds schema) t.tableau) ts
  typed_of [] ts are terms = subst (AllByRecursion (λ (t : Term). IsTyped (attribute_kinds schema) t.tableau)) (sym terms) tt
  typed_of (x ∷ xs) ts are terms =
      ⊎_elim
      (λ (none : IsOutOf schema maximal q x None × AreInTurn schema maximal q xs ts). typed_of xs ts are.1 none.1)
      (λ (some : (t : Term) × (rest : List Term) × (ts ≡ t ∷ rest) × Gives schema maximal q x t × AreInTurn schema maximal q xs rest).
      let k = some.3.tableau in
      let fits = literals_fit schema q resolved x.disjunct are.0.disjunct_in in
      subst (AllByRecursion (λ (t : Term). IsTyped (attribute_kinds schema) t.tableau)) (sym some.2) (
        subst (IsTyped (attribute_kinds schema)) (sym k.is) (tableau_typed schema (origins_of schema maximal x.choice) (comparisons_of schema q x.disjunct) k.name k.naming fit (one_kind schema q resolved _ fits) q),
        typed_of xs some.1 are.1 some.4,
      ))
      terms
