-- An object's pairs lead back to its links.
use Rattle.std.proofs.Common.{◌≡◌, ◌≢◌, ◌+◌, ◌<◌, ◌≤◌, ℕ, true, false, not, ◌==◌, List, [], ◌∷◌, ◌++◌, length, map, find, Some, None, option_map, refl, sym, ap, subst, ◌∙◌, All, AllPairs, get_or, zero, suc, append_assoc, arith}
use lib.ListN.{length-map}
use Rattle.std.specs.List.{AllByRecursion, range_with_len, filter_map, cons_option}
use Rattle.std.proofs.lemmas.Bool.Decides.{nat_tests}
use Rattle.std.proofs.lemmas.List.{map-append}
use Rattle.std.proofs.lemmas.List.Elements.{recursion_from_All, All-map, All-weaker, All-head}
use Rattle.std.proofs.lemmas.Option.{get_or_from_slice_get, slice_get_within, slice_get-map}
use Rattle.su_base.specs.Name.{IsName}
use Rattle.su_base.specs.declared.values.Kind.{Kind}
use Rattle.su_base.specs.declared.values.Kind.TheVariants.{Int, Text}
use Rattle.su_base.specs.declared.values.Column.{Column}
use Rattle.su_base.proofs.Items.{All-middle, AllByRecursion-weaker, map-map_equal}
use Rattle.su_schema.specs.declared.definitions.Pair.{Pair}
use Rattle.su_schema.specs.declared.links.Link.{Link}
use Rattle.su_schema.specs.SchemaValue.{SchemaValue}
use Rattle.su_schema.specs.Entries.{AreDistinctNames, attribute_names, attribute_kinds, column_names}
use Rattle.su_schema.specs.Valid.{IsLink}
use Rattle.su_base.specs.Value.{same_kind}
use Rattle.su_schema.specs.NameChecks.{first_failing}
use Rattle.su_schema.specs.Known.{is_known, number_of, attribute_kind, column_kind}
use Rattle.su_schema.specs.Checks.{pair_checks}
use Rattle.su_schema.specs.Definitions.{link_of, links_of, ascending}
use Rattle.su_base.specs.Name.{AreNames}
use Rattle.su_ddl.specs.ShownDefinitions.{name_at}
use Rattle.su_ddl.proofs.Named.{before, step, not_unknown, number_at, other_names}

-- ---- links in ascending order

-- each attribute is at least a, and below those behind it
abbrev pub Rises : ℕ → List Link → Type 0
Rises a [] = Unit {0}
Rises a (l ∷ ls) = (a ≤ l.attribute) × Rises (suc l.attribute) ls

abbrev taken : List Link → ℕ → ℕ → List Link
taken links a m = filter_map (λ b. find (λ l. l.attribute == b) links) (range_with_len a m)

none_taken : (a m : ℕ) → taken [] a m ≡ []
none_taken a zero = refl
none_taken a (suc m) = none_taken (a + 1) m

past_taken : (l : Link) (ls : List Link) (a m : ℕ) → l.attribute < a → taken (l ∷ ls) a m ≡ taken ls a m
past_taken l ls a zero less = refl
past_taken l ls a (suc m) less =
    let other : (l.attribute == a) ≡ false = grind (arith, nat_tests, less) in
    let more : taken (l ∷ ls) (a + 1) m ≡ taken ls (a + 1) m = past_taken l ls (a + 1) m (omega (arith, less)) in
    let here : find (λ k. k.attribute == a) (l ∷ ls) ≡ find (λ k. k.attribute == a) ls = rw other refl in
    ap (λ o. cons_option o (taken (l ∷ ls) (a + 1) m)) here ∙ ap (cons_option (find (λ k. k.attribute == a) ls)) more

not_found : (ls : List Link) (a b : ℕ) → a < b → Rises b ls → find (λ l. l.attribute == a) ls ≡ None
not_found [] a b less rises = refl
not_found (l ∷ ls) a b less rises =
    let low = rises.0 in
    let other : (l.attribute == a) ≡ false = grind (arith, nat_tests, less, low) in
    rw other (not_found ls a (suc l.attribute) (omega (arith, less, low)) rises.1)

pub all_taken : (m a : ℕ) (links : List Link) → Rises a links → AllByRecursion (λ l. l.attribute < a + m) links → taken links a m ≡ links
all_taken zero a [] rises below = refl
all_taken zero a (l ∷ ls) rises below = absurd (omega (arith, rises.0, below.0))
all_taken (suc m) a [] rises below = none_taken a (suc m)
all_taken (suc m) a (l ∷ ls) rises below =
    let up : (x : Link) → x.attribute < a + suc m → x.attribute < a + 1 + m = λ x h. omega (arith, h) in
    let below' : AllByRecursion (λ x. x.attribute < a + 1 + m) (l ∷ ls) = AllByRecursion-weaker (λ x. x.attribute < a + suc m) (λ x. x.attribute < a + 1 + m) (l ∷ ls) up below in
    elim (l.attribute == a) as (λ v. (l.attribute == a) ≡ v → taken (l ∷ ls) a (suc m) ≡ l ∷ ls) [
      | true ↦ λ h.
          let at : l.attribute ≡ a = grind (arith, nat_tests, h) in
          let here : find (λ k. k.attribute == a) (l ∷ ls) ≡ Some l = rw h refl in
          let next : suc l.attribute ≡ a + 1 = omega (arith, at) in
          let more : taken ls (a + 1) m ≡ ls = all_taken m (a + 1) ls (subst (λ (b : ℕ). Rises b ls) next rises.1) below'.1 in
          ap (λ o. cons_option o (taken (l ∷ ls) (a + 1) m)) here ∙ ap (λ v. l ∷ v) (past_taken l ls (a + 1) m (omega (arith, at)) ∙ more)
      | false ↦ λ h.
          let low = rises.0 in
          let above : a < l.attribute = grind (arith, nat_tests, h, low) in
          let here : find (λ k. k.attribute == a) (l ∷ ls) ≡ None = rw h (not_found ls a (suc l.attribute) (omega (arith, above)) rises.1) in
          ap (λ o. cons_option o (taken (l ∷ ls) (a + 1) m)) here ∙ all_taken m (a + 1) (l ∷ ls) (omega (arith, above), rises.1) below'
    ] refl

rises_from : (a : ℕ) (links : List Link) → AllByRecursion (λ l. a ≤ l.attribute) links → AllPairs (λ k l. k.attribute < l.attribute) links → Rises a links
rises_from a [] low rising = tt
rises_from a (l ∷ ls) low rising =
    let later : All (λ x. suc l.attribute ≤ x.attribute) ls = λ k d within. let h = rising 0 (suc k) d (omega arith) (omega (arith, within)) in omega (arith, h) in
    (low.0, rises_from (suc l.attribute) ls (recursion_from_All (λ x. suc l.attribute ≤ x.attribute) ls later) (λ i j d less within. rising (suc i) (suc j) d (omega (arith, less)) (omega (arith, within))))

all_low : (links : List Link) → AllByRecursion (λ l. 0 ≤ l.attribute) links
all_low [] = tt
all_low (l ∷ ls) = (omega arith, all_low ls)

pub ascending_again : (n : ℕ) (links : List Link) → AllPairs (λ k l. k.attribute < l.attribute) links → AllByRecursion (λ l. l.attribute < n) links → ascending n links ≡ links
ascending_again n links rising below =
    all_taken n 0 links (rises_from 0 links (all_low links) rising) (AllByRecursion-weaker (λ l. l.attribute < n) (λ l. l.attribute < 0 + n) links (λ l h. omega (arith, h)) below)

-- ---- pairs by numbers

same_link : (k l : Link) → k.attribute ≡ l.attribute → k.column ≡ l.column → k ≡ l
same_link k l a c i = record { attribute = a i; column = c i }

agree : (k l : Kind) → k ≡ l → same_kind k l ≡ true
agree Int Int e = refl
agree Text Text e = refl
agree Int Text e = absurd (cc)
agree Text Int e = absurd (cc)

module _ (schema : SchemaValue) (columns : List Column) where
  -- the pair that a link is shown as
  abbrev pub pair_at : Link → Pair
  pair_at l = record { attribute = name_at (attribute_names schema) l.attribute; column = name_at (column_names columns) l.column }

  module _ (attributes_are : AreDistinctNames (attribute_names schema)) (columns_are : AreDistinctNames (column_names columns)) where
    pub attribute_within : (l : Link) → IsLink schema columns l → l.attribute < length (attribute_names schema)
    attribute_within l is = rw length-map (slice_get_within schema.attributes l.attribute is.0 is.2)

    pub column_within : (l : Link) → IsLink schema columns l → l.column < length (column_names columns)
    column_within l is = rw length-map (slice_get_within columns l.column is.1 is.3)

    link_again : (l : Link) → IsLink schema columns l → link_of schema columns (pair_at l) ≡ l
    link_again l is =
        same_link (link_of schema columns (pair_at l)) l (number_at (attribute_names schema) attributes_are.apart l.attribute (attribute_within l is))
        (number_at (column_names columns) columns_are.apart l.column (column_within l is))

    pub links_again : (links : List Link) → AllByRecursion (IsLink schema columns) links → map (link_of schema columns) (map pair_at links) ≡ links
    links_again [] all = refl
    links_again (l ∷ ls) all = ap (λ v. v ∷ map (link_of schema columns) (map pair_at ls)) (link_again l all.0) ∙ ap (λ v. l ∷ v) (links_again ls all.1)

    one_kind_each : (l : Link) → IsLink schema columns l → same_kind (attribute_kind schema (pair_at l).attribute) (column_kind columns (pair_at l).column) ≡ true
    one_kind_each l is =
        let a : number_of (attribute_names schema) (pair_at l).attribute ≡ l.attribute = number_at (attribute_names schema) attributes_are.apart l.attribute (attribute_within l is) in
        let c : number_of (column_names columns) (pair_at l).column ≡ l.column = number_at (column_names columns) columns_are.apart l.column (column_within l is) in
        let ak : get_or (attribute_kinds schema) l.attribute Int ≡ is.0.kind = get_or_from_slice_get (attribute_kinds schema) l.attribute is.0.kind Int (slice_get-map (λ x. x.kind) schema.attributes l.attribute ∙ ap (option_map (λ x. x.kind)) is.2) in
        let ck : get_or (map (λ x. x.kind) columns) l.column Int ≡ is.1.kind = get_or_from_slice_get (map (λ x. x.kind) columns) l.column is.1.kind Int (slice_get-map (λ x. x.kind) columns l.column ∙ ap (option_map (λ x. x.kind)) is.3) in
        agree _ _ (ap (λ k. get_or (attribute_kinds schema) k Int) a ∙ ak ∙ is.4 ∙ sym ck ∙ ap (λ k. get_or (map (λ x. x.kind) columns) k Int) (sym c))

    module _ (links : List Link) (all_links : All (IsLink schema columns) links) (rising : AllPairs (λ k l. k.attribute < l.attribute) links) (apart : AllPairs (λ k l. k.column ≢ l.column) links) where
      pairs_pass : (done rest : List Link) → links ≡ done ++ rest → first_failing (pair_checks schema columns (map pair_at done) (map pair_at rest)) ≡ None
      pairs_pass done [] e = refl
      pairs_pass done (l ∷ rest) e =
          let attributes = attribute_names schema in
          let names = column_names columns in
          let split : All (IsLink schema columns) (done ++ l ∷ rest) = subst (All (IsLink schema columns)) e all_links in
          let is : IsLink schema columns l = All-middle (IsLink schema columns) done l rest split in
          let a_in = attribute_within l is in
          let c_in = column_within l is in
          let lower = before (λ k m. k.attribute < m.attribute) done rest l (subst (AllPairs (λ k m. k.attribute < m.attribute)) e rising) in
          let others : AllByRecursion (λ k. (k.attribute < length attributes) × (k.attribute ≢ l.attribute)) done =
          AllByRecursion-weaker (λ k. k.attribute < l.attribute) (λ k. (k.attribute < length attributes) × (k.attribute ≢ l.attribute)) done (λ k h. (omega (arith, h, a_in), λ s. omega (arith, h, s))) lower in
          let columns_before = before (λ k m. k.column ≢ m.column) done rest l (subst (AllPairs (λ k m. k.column ≢ m.column)) e apart) in
          let columns_in : AllByRecursion (IsLink schema columns) done = links_before done (l ∷ rest) split in
          let fresh_a : is_known (map (λ p. p.attribute) (map pair_at done)) (pair_at l).attribute ≡ false =
          ap (λ v. is_known v (pair_at l).attribute) (map-map_equal pair_at (λ (p : Pair). p.attribute) (λ l. (pair_at l).attribute) (λ l. refl) done) ∙ other_names attributes attributes_are.apart (λ k. k.attribute) done l.attribute a_in others in
          let fresh_c : is_known (map (λ p. p.column) (map pair_at done)) (pair_at l).column ≡ false =
          ap (λ v. is_known v (pair_at l).column) (map-map_equal pair_at (λ (p : Pair). p.column) (λ l. (pair_at l).column) (λ l. refl) done) ∙ other_names names columns_are.apart (λ k. k.column) done l.column c_in (both_in done l columns_in columns_before) in
          let more = pairs_pass (done ++ l ∷ []) rest (e ∙ sym (append_assoc done (l ∷ []) rest)) in
          step (not (is_known attributes (pair_at l).attribute)) _ _ (not_unknown attributes l.attribute a_in)
          (step (not (is_known names (pair_at l).column)) _ _ (not_unknown names l.column c_in)
          (step (is_known (map (λ p. p.attribute) (map pair_at done)) (pair_at l).attribute) _ _ fresh_a
          (step (is_known (map (λ p. p.column) (map pair_at done)) (pair_at l).column) _ _ fresh_c
          (step (not (same_kind (attribute_kind schema (pair_at l).attribute) (column_kind columns (pair_at l).column))) _ _ (ap not (one_kind_each l is))
          (subst (λ (v : List Pair). first_failing (pair_checks schema columns v (map pair_at rest)) ≡ None) (map-append pair_at done (l ∷ [])) more)))))
        where
          links_before : (xs ys : List Link) → All (IsLink schema columns) (xs ++ ys) → AllByRecursion (IsLink schema columns) xs
          links_before [] ys all = tt
          links_before (x ∷ xs) ys all = (All-head (IsLink schema columns) x (xs ++ ys) all, links_before xs ys (λ k d within. all (suc k) d (omega (arith, within))))

          both_in : (xs : List Link) (l : Link) → AllByRecursion (IsLink schema columns) xs → AllByRecursion (λ k. k.column ≢ l.column) xs → AllByRecursion (λ k. (k.column < length (column_names columns)) × (k.column ≢ l.column)) xs
          both_in [] l all other = tt
          both_in (x ∷ xs) l all other = ((column_within x all.0, other.0), both_in xs l all.1 other.1)

      pub all_pass : first_failing (pair_checks schema columns [] (map pair_at links)) ≡ None
      all_pass = pairs_pass [] links refl

      pub links_are : links_of schema columns (map pair_at links) ≡ links
      links_are =
          let each = recursion_from_All (IsLink schema columns) links all_links in
          let within : AllByRecursion (λ l. l.attribute < length schema.attributes) links =
          AllByRecursion-weaker (IsLink schema columns) (λ l. l.attribute < length schema.attributes) links (λ l is. slice_get_within schema.attributes l.attribute is.0 is.2) each in
          ap (ascending (length schema.attributes)) (links_again links each) ∙ ascending_again (length schema.attributes) links rising within

      pub attributes_given : 0 < length links → AreNames (map (λ p. p.attribute) (map pair_at links))
      attributes_given some = record {
        some = rw (length-map, length-map) some;
        named = All-map IsName (λ p. p.attribute) (map pair_at links)
            (All-map (λ p. IsName p.attribute) pair_at links (All-weaker (IsLink schema columns) (λ l. IsName (pair_at l).attribute) (λ l is. attributes_are.named l.attribute [] (attribute_within l is)) links all_links));
      }

      pub columns_given : 0 < length links → AreNames (map (λ p. p.column) (map pair_at links))
      columns_given some = record {
        some = rw (length-map, length-map) some;
        named = All-map IsName (λ p. p.column) (map pair_at links)
            (All-map (λ p. IsName p.column) pair_at links (All-weaker (IsLink schema columns) (λ l. IsName (pair_at l).column) (λ l is. columns_are.named l.column [] (column_within l is)) links all_links));
      }
