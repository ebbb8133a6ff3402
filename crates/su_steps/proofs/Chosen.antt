-- Choices: their combinations, how many there are, and what a choice of the query shows.
use Rattle.std.proofs.Common.{◌≡◌, ⊎_elim, ℕ, zero, suc, ◌*◌, ◌/◌, ◌%◌, ◌<◌, ◌≤◌, Bool, true, List, [], ◌∷◌, ◌++◌, map, length, get_or, Contains, refl, sym, ap, ◌∙◌, subst, arith}
use Rattle.std.proofs.Math.Arith.{digits_lt}
use Rattle.std.specs.List.{range_with_len}
use Rattle.std.specs.Ordering.{nat_cmp}
use Rattle.std.specs.FinSet.{FinSet, contains, empty}
use Rattle.std.proofs.lemmas.Nat.{div-mul-add, mod-mul-add}
use Rattle.std.proofs.lemmas.List.{length-map, get_or-map, get_or_push, get_or_append_left, get_or_default, length_push}
use Rattle.std.proofs.lemmas.Bool.{cases_lt}
use Rattle.std.proofs.lemmas.List.Elements.{All-contains, Contains-get_or}
use Rattle.std.proofs.lemmas.List.FromFn.{length-map-range_with_len}
use Rattle.su_base.proofs.Subsets.{subset_at}
use Rattle.su_base.proofs.Items.{Contains-cases, Contains-nil, Contains-map, Contains-map_source, Contains-flat_map, Contains-flat_map_source, Contains-filter, Contains-filter_source, AllByRecursion-contains, AllByRecursion-members, Contains-range, Contains-range_below, get_or-map_range}
use Rattle.su_where.specs.declared.literals.Operand.{Operand}
use Rattle.su_where.specs.declared.literals.Operand.TheVariants as operand
use Rattle.su_where.specs.declared.literals.Literal.{Literal}
use Rattle.su_where.specs.Places.{IsBelow, HasPlacesBelow}
use Rattle.su_schema.specs.SchemaValue.{SchemaValue}
use Rattle.su_query.specs.declared.places.Place.{Place}
use Rattle.su_query.specs.declared.resolving.Resolved.{Resolved}
use Rattle.su_query.specs.Ranges.{IsResolved}
use Rattle.su_query.specs.Sets.{mentioned_with}
use Rattle.su_steps.specs.declared.results.Origin.{Origin}
use Rattle.su_steps.specs.Objects.{width, attributes_at, objects_of, attributes_of_all, covers}
use Rattle.su_steps.specs.Choices.{coverings_of, coverings, combinations, choices, chosen_objects, origin, origins_of}
use Rattle.su_steps.specs.PairSymbols.{SymbolComparison, pair, place_symbol, operand_symbol, compared, comparisons}
use Rattle.su_steps.specs.inside.Ready.{FitLiterals, IsChoice}
use Rattle.su_steps.proofs.Cells.{origins_at, origins_by}
use Rattle.su_steps.proofs.Raw.{AreWithin, HasObject, IsShown, AreShown}
use Rattle.su_steps.proofs.ResolvedQueries.{of_all, of_objects, mentioned_at, no_place, place_in}
use Rattle.su_steps.proofs.Shape.{AreBelow, IsPairBelow}

-- ---- combinations

pub combination_by : (xss : List (List ℕ)) (ys : List ℕ) → length ys ≡ length xss → ((v : ℕ) → v < length xss → Contains (get_or xss v []) (get_or ys v 0)) → Contains (combinations xss) ys
combination_by [] [] l h = (0, omega arith, refl)
combination_by [] (y ∷ ys) l h = absurd (omega arith)
combination_by (xs ∷ xss) [] l h = absurd (omega arith)
combination_by (xs ∷ xss) (y ∷ ys) l h =
    Contains-flat_map (λ x. map (λ zs. x ∷ zs) (combinations xss)) xs y (y ∷ ys) (h 0 (omega arith))
    (Contains-map (λ zs. y ∷ zs) (combinations xss) ys (combination_by xss ys (omega arith) (λ v i. h (suc v) (omega arith))))

pub record IsCombination (xss : List (List ℕ)) (ys : List ℕ) : Type 0 where
  pub same_length : length ys ≡ length xss
  pub at : (v : ℕ) → v < length xss → Contains (get_or xss v []) (get_or ys v 0)

at_each : (xs : List ℕ) (xss : List (List ℕ)) (y : ℕ) (ys : List ℕ) → Contains xs y → IsCombination xss ys → (v : ℕ) → v < suc (length xss) → Contains (get_or (xs ∷ xss) v []) (get_or (y ∷ ys) v 0)
at_each xs xss y ys c r zero l = c
at_each xs xss y ys c r (suc v) l = r.at v (omega arith)

combined : (xs : List ℕ) (xss : List (List ℕ)) (y : ℕ) (ys : List ℕ) → Contains xs y → IsCombination xss ys → IsCombination (xs ∷ xss) (y ∷ ys)
combined xs xss y ys c r = record { same_length = (let l = r.same_length in omega arith); at = at_each xs xss y ys c r }

pub combination_is : (xss : List (List ℕ)) (ys : List ℕ) → Contains (combinations xss) ys → IsCombination xss ys
combination_is [] ys c =
    ⊎_elim
    (λ (e : [] ≡ ys). record { same_length = sym (ap length e); at = λ v l. absurd (omega arith) })
    (λ (r : Contains [] ys). absurd (Contains-nil ys r))
    (Contains-cases [] [] ys c)
combination_is (xs ∷ xss) ys c =
    let w = Contains-flat_map_source (λ x. map (λ zs. x ∷ zs) (combinations xss)) xs ys c in
    let u = Contains-map_source (λ zs. w.0 ∷ zs) (combinations xss) ys w.2 in
    subst (IsCombination (xs ∷ xss)) u.2 (combined xs xss w.0 u.0 w.1 (combination_is xss u.0 u.1))

-- ---- one number for each place of a list

pub pick : (P : ℕ → ℕ → Type 0) (n : ℕ) → ((v : ℕ) → v < n → (m : ℕ) × P v m) → (xs : List ℕ) × (length xs ≡ n) × ((v : ℕ) → v < n → P v (get_or xs v 0))
pick P zero h = ([], refl, λ v l. absurd (omega arith))
pick P (suc n) h =
    let w = pick P n (λ v l. h v (omega arith)) in
    let xs = w.0 in
    let m = h n (omega arith) in
    let count : length xs ≡ n = w.1 in (
      xs ++ m.0 ∷ [],
      (let e = length_push xs m.0 in omega arith),
      λ v l.
          ⊎_elim
          (λ (lt : v < n). subst (P v) (sym (get_or_append_left xs (m.0 ∷ []) 0 v (omega arith))) (w.2 v lt))
          (λ (ge : n ≤ v). let same : v ≡ n = omega arith in subst (λ k. P k (get_or (xs ++ m.0 ∷ []) k 0)) (sym same) (subst (P n) (sym (get_or_push xs m.0 0 n count)) m.1))
          (cases_lt v n),
    )

-- ---- the choices of a query

module _ (schema : SchemaValue) (maximal : List (FinSet nat_cmp)) (q : Resolved) where
  abbrev wanted : ℕ → ℕ → Bool
  wanted v m = covers schema (get_or maximal m empty) (mentioned_with q.places v)

  coverings_at : (v : ℕ) → v < length q.variables → get_or (coverings schema maximal q) v [] ≡ coverings_of schema maximal q v
  coverings_at v l = get_or-map_range (coverings_of schema maximal q) (length q.variables) v [] l

  pub coverings_count : length (coverings schema maximal q) ≡ length q.variables
  coverings_count = length-map-range_with_len (coverings_of schema maximal q) 0 (length q.variables)

  pub choice_of : (choice : List ℕ) → Contains (choices schema maximal q) choice → IsChoice schema maximal q choice
  choice_of choice c =
      let r = combination_is (coverings schema maximal q) choice c in
      let k = coverings_count in
      let s = r.same_length in
      let at : (v : ℕ) → v < length q.variables → Contains (range_with_len 0 (length maximal)) (get_or choice v 0) × (wanted v (get_or choice v 0) ≡ true) =
      λ v l. Contains-filter_source (wanted v) (range_with_len 0 (length maximal)) (get_or choice v 0) (subst (λ xs. Contains xs (get_or choice v 0)) (coverings_at v l) (r.at v (omega arith))) in
      record {
        one_per_variable = s ∙ k;
        in_range = λ v d l. let i : v < length q.variables = omega arith in let low = Contains-range_below (length maximal) (get_or choice v 0) (at v i).0 in let e = get_or_default choice v 0 d l in omega arith;
        covering = λ v l. (at v l).1;
      }

  pub of_choice : (choice : List ℕ) → IsChoice schema maximal q choice → Contains (choices schema maximal q) choice
  of_choice choice r =
      let k = coverings_count in
      let s = r.one_per_variable in
      combination_by (coverings schema maximal q) choice (s ∙ sym k)
      (λ v l.
      let i : v < length q.variables = omega arith in
      let low : get_or choice v 0 < length maximal = r.in_range v 0 (omega arith) in
      subst (λ xs. Contains xs (get_or choice v 0)) (sym (coverings_at v i))
      (Contains-filter (wanted v) (range_with_len 0 (length maximal)) (get_or choice v 0) (Contains-range (length maximal) (get_or choice v 0) low) (r.covering v i)))

  -- ---- what a choice shows

  module _ (choice : List ℕ) (is_choice : IsChoice schema maximal q choice) where
    abbrev objects : List (List ℕ)
    objects = chosen_objects schema maximal choice

    pub objects_count : length objects ≡ length q.variables
    objects_count = length-map choice (λ m. objects_of schema (get_or maximal m empty)) ∙ is_choice.one_per_variable

    pub objects_at : (v : ℕ) → v < length q.variables → get_or objects v [] ≡ objects_of schema (get_or maximal (get_or choice v 0) empty)
    objects_at v l = get_or-map (λ m. objects_of schema (get_or maximal m empty)) choice v 0 [] (let e = is_choice.one_per_variable in omega arith)

    -- an object of the variable has the place's attribute
    pub place_object : (p : Place) → Contains q.places p → p.variable < length q.variables → (o : ℕ) × Contains (get_or objects p.variable []) o × (contains (attributes_at schema o) p.attribute ≡ true)
    place_object p c l =
        let set = get_or maximal (get_or choice p.variable 0) empty in
        let has = subset_at (mentioned_with q.places p.variable) (attributes_of_all schema (objects_of schema set)) p.attribute (is_choice.covering p.variable l) (mentioned_at q.places p c) in
        let w = of_all schema (objects_of schema set) p.attribute has in
        (w.0, subst (λ xs. Contains xs w.0) (sym (objects_at p.variable l)) w.1, w.2)

    -- a row of the variable and the object
    pub has_origin : (v o : ℕ) → v < length q.variables → Contains (get_or objects v []) o → Contains (origins_of schema maximal choice) (origin v o)
    has_origin v o l c =
        AllByRecursion-contains (λ o. Contains (origins_of schema maximal choice) (origin v o)) (get_or objects v []) o
        (origins_at (Contains (origins_of schema maximal choice)) 0 objects (AllByRecursion-members (Contains (origins_of schema maximal choice)) (origins_of schema maximal choice) (λ x c. c)) v v (omega arith) (let e = objects_count in omega arith))
        c

    -- the rows are of the query's variables and of the schema's objects
    pub origin_in : (o : Origin) → Contains (origins_of schema maximal choice) o → (o.variable < length q.variables) × (o.object < length schema.objects)
    origin_in o c =
        AllByRecursion-contains (λ o. (o.variable < length q.variables) × (o.object < length schema.objects)) (origins_of schema maximal choice) o
        (origins_by (λ o. (o.variable < length q.variables) × (o.object < length schema.objects)) 0 objects
        (λ i j e l.
        let n = objects_count in
        AllByRecursion-members (λ o. (j < length q.variables) × (o < length schema.objects)) (get_or objects i [])
        (λ o c. (omega arith, (of_objects schema (get_or maximal (get_or choice i 0) empty) o (subst (λ xs. Contains xs o) (objects_at i (omega arith)) c)).0))))
        c

    module _ (resolved : IsResolved schema q) (fit : AreWithin schema) where
      pair_shown : (p : Place) → Contains q.places p → HasObject schema objects (pair (width schema) p.variable p.attribute)
      pair_shown p c =
          let low = place_in schema q resolved p c in
          let n = width schema in
          let v : pair n p.variable p.attribute / n ≡ p.variable = div-mul-add p.variable n p.attribute low.1 in
          let a : pair n p.variable p.attribute % n ≡ p.attribute = mod-mul-add p.variable n p.attribute low.1 in
          let w = place_object p c low.0 in
          let e = objects_count in
          record {
            object = w.0;
            variable_in = subst (λ k. k < length objects) (sym v) (omega (arith, low.0, e));
            takes = subst (λ k. Contains (get_or objects k []) w.0) (sym v) w.1;
            has = subst (λ k. contains (attributes_at schema w.0) k ≡ true) (sym a) w.2;
          }

      operand_shown : (x : Operand) → IsBelow (length q.places) x → IsShown schema objects (operand_symbol (width schema) q.places x)
      operand_shown (operand.Const c) h = tt
      operand_shown (operand.Place i) h = pair_shown (get_or q.places i no_place) (Contains-get_or q.places i no_place h)

      -- what is compared and what is put out stands in rows
      pub shown : (literals : List Literal) → FitLiterals schema q literals → AreShown schema objects (map (place_symbol (width schema) q.places) q.outputs) (comparisons (width schema) q.places literals)
      shown literals fits =
          let n = width schema in
          let side : (c : SymbolComparison) → Contains (comparisons n q.places literals) c → IsShown schema objects c.left × IsShown schema objects c.right =
          λ c has.
          let w = Contains-map_source (compared n q.places) literals c has in
          let p = All-contains (HasPlacesBelow (length q.places)) literals w.0 fits.places w.1 in
          subst (λ (c : SymbolComparison). IsShown schema objects c.left × IsShown schema objects c.right) w.2 (operand_shown w.0.left p.0, operand_shown w.0.right p.1) in
          record {
            in_outputs = AllByRecursion-members (IsShown schema objects) (map (place_symbol n q.places) q.outputs)
                (λ x has.
                let w = Contains-map_source (place_symbol n q.places) q.outputs x has in
                subst (IsShown schema objects) w.2 (operand_shown (operand.Place w.0) (All-contains (λ o. o < length q.places) q.outputs w.0 resolved.outputs w.1)));
            in_lefts = AllByRecursion-members (λ c. IsShown schema objects c.left) (comparisons n q.places literals) (λ c has. (side c has).0);
            in_rights = AllByRecursion-members (λ c. IsShown schema objects c.right) (comparisons n q.places literals) (λ c has. (side c has).1);
          }

      operand_below : (x : Operand) → IsBelow (length q.places) x → IsPairBelow (length q.variables * width schema) (operand_symbol (width schema) q.places x)
      operand_below (operand.Const c) h = tt
      operand_below (operand.Place i) h =
          let low = place_in schema q resolved (get_or q.places i no_place) (Contains-get_or q.places i no_place h) in
          digits_lt low.0 low.1

      -- the pairs of sides and rows are below the own symbols
      pub pairs_below : (literals : List Literal) → FitLiterals schema q literals → AreBelow schema (length q.variables * width schema) (origins_of schema maximal choice) (comparisons (width schema) q.places literals)
      pairs_below literals fits = record {
        sides = λ c has.
            let w = Contains-map_source (compared (width schema) q.places) literals c has in
            let p = All-contains (HasPlacesBelow (length q.places)) literals w.0 fits.places w.1 in
            subst (λ (c : SymbolComparison). IsPairBelow (length q.variables * width schema) c.left × IsPairBelow (length q.variables * width schema) c.right) w.2 (operand_below w.0.left p.0, operand_below w.0.right p.1);
        pairs = λ o a c h. digits_lt (origin_in o c).0 (fit o.object a h);
      }
