-- Names by their numbers, where no name stands twice: a number's name has this number, and checks of such names pass.
use Rattle.std.proofs.Common.{◌≡◌, ◌≢◌, ◌+◌, ◌<◌, ◌≤◌, ℕ, Bool, true, false, not, ◌||◌, cond, List, [], ◌∷◌, ◌++◌, length, length-append, map, filter, Option, Some, None, refl, sym, ap, subst, ◌∙◌, All, AllPairs, get_or, nat_eq, nat_lt, zero, suc, append_assoc, arith}
use Rattle.std.specs.Prelude.{if◌then◌else◌}
use Rattle.std.specs.List.{AllByRecursion, range_with_len, list_any}
use Rattle.std.specs.Str.{bytes_eq}
use Rattle.std.specs.Ordering.{nat_cmp}
use Rattle.std.specs.Cmp.{nat_cmp_total}
use Rattle.std.specs.FinSet.{FinSet, empty, contains, from_list, contains-from_list_nat, same_set, nat_cmp-IsAntisymmetric}
use Rattle.std.proofs.lemmas.Bool.{false≢true}
use Rattle.std.proofs.lemmas.Bool.Decides.{nat_tests}
use Rattle.std.proofs.lemmas.List.{map-append, get_or_at, get_or_append_left}
use Rattle.std.proofs.lemmas.List.Elements.{recursion_from_All, All-from_recursion, All-filter, All-map, All-weaker}
use Rattle.std.proofs.lemmas.List.Kept.{AllPairs-cons, AllPairs-filter}
use Rattle.std.proofs.lemmas.List.Folds.{list_any_at}
use Rattle.std.proofs.lemmas.Option.{get_or_from_slice_get}
use Rattle.std.proofs.lemmas.Slice.Eq.{bytes_eq-Decides}
use Rattle.su_base.specs.Name.{IsName, AreNames}
use Rattle.su_base.proofs.Items.{All-middle, AllByRecursion-weaker}
use Rattle.su_schema.specs.declared.faults.SchemaFault.{SchemaFault}
use Rattle.su_schema.specs.Entries.{AreDistinctNames}
use Rattle.su_schema.specs.Valid.{IsSomeBelow}
use Rattle.su_schema.specs.NameChecks.{first_failing, apart_checks, name_checks}
use Rattle.su_schema.specs.Known.{is_known, number_of}
use Rattle.su_schema.specs.Definitions.{numbers_of}
use Rattle.su_schema.specs.SetMembers.{numbers_in}
use Rattle.su_schema.proofs.Numbers.{slice_get-number_of}
use Rattle.su_schema.proofs.Validity.{number_below}
use Rattle.su_ddl.specs.ShownDefinitions.{name_at, names_in}

-- ---- lists that are split at an item

pub before : {X : Type 0} (R : X → X → Type 0) (done rest : List X) (x : X) → AllPairs R (done ++ x ∷ rest) → AllByRecursion (λ y. R y x) done
before {X = X} R done rest x apart =
    recursion_from_All (λ y. R y x) done (λ k d within.
    let at : get_or (done ++ x ∷ rest) (length done) d ≡ x = get_or_at done x rest d (length done) refl in
    let one : get_or (done ++ x ∷ rest) k d ≡ get_or done k d = get_or_append_left done (x ∷ rest) d k within in
    let both : R (get_or (done ++ x ∷ rest) k d) (get_or (done ++ x ∷ rest) (length done) d) = apart k (length done) d within (rw length-append (omega arith)) in
    subst (λ (v : X). R (get_or done k d) v) at (subst (λ (v : X). R v (get_or (done ++ x ∷ rest) (length done) d)) one both))

-- ---- checks that pass

pub step : (fails : Bool) (fault : SchemaFault) (rest : Option SchemaFault) → fails ≡ false → rest ≡ None → (if fails then Some fault else rest) ≡ None
step true fault rest e h = absurd (false≢true (sym e))
step false fault rest e h = h

not_among : (done : List (List ℕ)) (n : List ℕ) → AllByRecursion (λ m. m ≢ n) done → is_known done n ≡ false
not_among [] n all = refl
not_among (m ∷ done) n all =
    elim (bytes_eq n m) as (λ v. bytes_eq n m ≡ v → (v || is_known done n) ≡ false) [
      | true ↦ λ h. absurd (all.0 (sym ((bytes_eq-Decides n m).0 h)))
      | false ↦ λ h. not_among done n all.1
    ] refl

-- a name does not stand before itself
pub fresh : (done rest : List (List ℕ)) (n : List ℕ) → AllPairs (λ x y. x ≢ y) (done ++ n ∷ rest) → is_known done n ≡ false
fresh done rest n apart = not_among done n (before (λ x y. x ≢ y) done rest n apart)

pub apart_pass : (all done rest : List (List ℕ)) → all ≡ done ++ rest → AllPairs (λ x y. x ≢ y) all → first_failing (apart_checks done rest) ≡ None
apart_pass all done [] e apart = refl
apart_pass all done (n ∷ rest) e apart =
    step (is_known done n) _ _ (fresh done rest n (subst (AllPairs (λ x y. x ≢ y)) e apart))
    (apart_pass all (done ++ n ∷ []) rest (e ∙ sym (append_assoc done (n ∷ []) rest)) apart)

-- ---- names and numbers

module _ (names : List (List ℕ)) where
  pub known_at : (k : ℕ) → k < length names → is_known names (name_at names k) ≡ true
  known_at k within = list_any_at (λ n. bytes_eq (name_at names k) n) names k [] within ((bytes_eq-Decides (name_at names k) (name_at names k)).1 refl)

  pub not_unknown : (k : ℕ) → k < length names → not (is_known names (name_at names k)) ≡ false
  not_unknown k within = ap not (known_at k within)

  module _ (apart : AllPairs (λ x y. x ≢ y) names) where
    same_place : (i j : ℕ) → i < length names → j < length names → name_at names i ≡ name_at names j → i ≡ j
    same_place i j a c e =
        elim (nat_lt i j) as (λ v. nat_lt i j ≡ v → i ≡ j) [
          | true ↦ λ h. absurd (apart i j [] (grind (arith, nat_tests, h)) c e)
          | false ↦ λ h.
              elim (nat_lt j i) as (λ v. nat_lt j i ≡ v → i ≡ j) [
                | true ↦ λ k. absurd (apart j i [] (grind (arith, nat_tests, k)) a (sym e))
                | false ↦ λ k. grind (arith, nat_tests, h, k)
              ] refl
        ] refl

    pub number_at : (k : ℕ) → k < length names → number_of names (name_at names k) ≡ k
    number_at k within =
        let known = known_at k within in
        let name = name_at names k in
        let at : name_at names (number_of names name) ≡ name = get_or_from_slice_get names (number_of names name) name [] (slice_get-number_of names name known) in
        same_place (number_of names name) k (number_below names name known) within at

    -- a name does not stand among those with other numbers
    pub other_names : {X : Type 0} (f : X → ℕ) (done : List X) (k : ℕ) → k < length names → AllByRecursion (λ x. (f x < length names) × (f x ≢ k)) done
        → is_known (map (λ x. name_at names (f x)) done) (name_at names k) ≡ false
    other_names f [] k within all = refl
    other_names f (x ∷ done) k within all =
        elim (bytes_eq (name_at names k) (name_at names (f x)))
        as (λ v. bytes_eq (name_at names k) (name_at names (f x)) ≡ v → (v || is_known (map (λ y. name_at names (f y)) done) (name_at names k)) ≡ false) [
          | true ↦ λ h. absurd (all.0.1 (same_place (f x) k all.0.0 within (sym ((bytes_eq-Decides (name_at names k) (name_at names (f x))).0 h))))
          | false ↦ λ h. other_names f done k within all.1
        ] refl

    -- ---- the names of numbers in ascending order

    pub ascending_pass : (all done rest : List ℕ) → all ≡ done ++ rest → AllPairs (λ i j. i < j) all → All (λ k. k < length names) all
        → first_failing (name_checks names (map (name_at names) done) (map (name_at names) rest)) ≡ None
    ascending_pass all done [] e rising below = refl
    ascending_pass all done (k ∷ rest) e rising below =
        let within : k < length names = All-middle (λ i. i < length names) done k rest (subst (All (λ i. i < length names)) e below) in
        let lower = AllByRecursion-weaker (λ i. i < k) (λ i. (i < length names) × (i ≢ k)) done (λ i l. (omega (arith, l, within), λ s. omega (arith, l, s))) (before (λ i j. i < j) done rest k (subst (AllPairs (λ i j. i < j)) e rising)) in
        let more = ascending_pass all (done ++ k ∷ []) rest (e ∙ sym (append_assoc done (k ∷ []) rest)) rising below in
        step (not (is_known names (name_at names k))) _ _ (not_unknown k within)
        (step (is_known (map (name_at names) done) (name_at names k)) _ _ (other_names (λ i. i) done k within lower)
        (subst (λ (v : List (List ℕ)). first_failing (name_checks names v (map (name_at names) rest)) ≡ None) (map-append (name_at names) done (k ∷ [])) more))

    pub numbers_again : (ks : List ℕ) → AllByRecursion (λ k. k < length names) ks → map (number_of names) (map (name_at names) ks) ≡ ks
    numbers_again [] all = refl
    numbers_again (k ∷ ks) all = ap (λ i. i ∷ map (number_of names) (map (name_at names) ks)) (number_at k all.0) ∙ ap (λ is. k ∷ is) (numbers_again ks all.1)

-- ---- the numbers of a set

range_above : (a m : ℕ) → AllByRecursion (λ k. (a ≤ k) × (k < a + m)) (range_with_len a m)
range_above a zero = tt
range_above a (suc m) =
    ((omega arith, omega arith), AllByRecursion-weaker (λ k. (a + 1 ≤ k) × (k < a + 1 + m)) (λ k. (a ≤ k) × (k < a + suc m)) (range_with_len (a + 1) m) (λ k h. (omega (arith, h.0), omega (arith, h.1))) (range_above (a + 1) m))

range_rising : (a m : ℕ) → AllPairs (λ i j. i < j) (range_with_len a m)
range_rising a zero = λ i j d less within. absurd (omega arith)
range_rising a (suc m) =
    AllPairs-cons (λ i j. i < j) a (range_with_len (a + 1) m)
    (All-from_recursion (λ k. a < k) (range_with_len (a + 1) m) (AllByRecursion-weaker (λ k. (a + 1 ≤ k) × (k < a + 1 + m)) (λ k. a < k) (range_with_len (a + 1) m) (λ k h. omega (arith, h.0)) (range_above (a + 1) m)))
    (range_rising (a + 1) m)

range_has : (q a m : ℕ) → a ≤ q → q < a + m → list_any (λ y. nat_eq y q) (range_with_len a m) ≡ true
range_has q a zero low high = absurd (omega arith)
range_has q a (suc m) low high =
    elim (nat_eq a q) as (λ v. nat_eq a q ≡ v → (v || list_any (λ y. nat_eq y q) (range_with_len (a + 1) m)) ≡ true) [
      | true ↦ λ h. refl
      | false ↦ λ h. let other : a ≢ q = grind (arith, nat_tests, h) in range_has q (a + 1) m (omega (arith, other, low)) (omega (arith, high))
    ] refl

-- what a filter keeps of a number
kept_out : (p : ℕ → Bool) (q : ℕ) (xs : List ℕ) → p q ≡ false → list_any (λ y. nat_eq y q) (filter p xs) ≡ false
kept_out p q [] out = refl
kept_out p q (x ∷ xs) out =
    elim (p x) as (λ v. p x ≡ v → list_any (λ y. nat_eq y q) (cond v (x ∷ filter p xs) (filter p xs)) ≡ false) [
      | false ↦ λ h. kept_out p q xs out
      | true ↦ λ h.
          elim (nat_eq x q) as (λ v. nat_eq x q ≡ v → (v || list_any (λ y. nat_eq y q) (filter p xs)) ≡ false) [
            | false ↦ λ k. kept_out p q xs out
            | true ↦ λ k. let same : x ≡ q = grind (arith, nat_tests, k) in absurd (false≢true (sym out ∙ ap p (sym same) ∙ h))
          ] refl
    ] refl

kept_in : (p : ℕ → Bool) (q : ℕ) (xs : List ℕ) → p q ≡ true → list_any (λ y. nat_eq y q) xs ≡ true → list_any (λ y. nat_eq y q) (filter p xs) ≡ true
kept_in p q [] in' there = there
kept_in p q (x ∷ xs) in' there =
    elim (nat_eq x q) as (λ v. nat_eq x q ≡ v → (v || list_any (λ y. nat_eq y q) xs) ≡ true → list_any (λ y. nat_eq y q) (cond (p x) (x ∷ filter p xs) (filter p xs)) ≡ true) [
      | true ↦ λ k t. let same : x ≡ q = grind (arith, nat_tests, k) in let keeps : p x ≡ true = ap p same ∙ in' in rw (keeps, k) refl
      | false ↦ λ k t.
          let later = kept_in p q xs in' t in
          elim (p x) as (λ v. list_any (λ y. nat_eq y q) (cond v (x ∷ filter p xs) (filter p xs)) ≡ true) [ true ↦ rw k later | false ↦ later ]
    ] refl there

module _ (n : ℕ) (set : FinSet nat_cmp) where
  pub numbers_below : All (λ k. k < n) (numbers_in set n)
  numbers_below =
      All-filter (contains set) (λ k. k < n) (range_with_len 0 n)
      (All-from_recursion (λ k. k < n) (range_with_len 0 n) (AllByRecursion-weaker (λ k. (0 ≤ k) × (k < 0 + n)) (λ k. k < n) (range_with_len 0 n) (λ k h. omega (arith, h.1)) (range_above 0 n)))

  pub numbers_rising : AllPairs (λ i j. i < j) (numbers_in set n)
  numbers_rising = AllPairs-filter (λ i j. i < j) (contains set) (range_with_len 0 n) (range_rising 0 n)

  pub set_again : IsSomeBelow n set → from_list {R = nat_cmp} (numbers_in set n) ≡ set
  set_again is =
      same_set nat_cmp_total nat_cmp-IsAntisymmetric _ _ (λ q. contains-from_list_nat (numbers_in set n) q ∙ by q (contains set q) refl)
    where
      by : (q : ℕ) (v : Bool) → contains set q ≡ v → list_any (λ y. nat_eq y q) (numbers_in set n) ≡ contains set q
      by q true e = kept_in (contains set) q (range_with_len 0 n) e (range_has q 0 n (omega arith) (omega (arith, is.below q e))) ∙ sym e
      by q false e = kept_out (contains set) q (range_with_len 0 n) e ∙ sym e

-- ---- a side of a dependency, or a declared set

some_names : (names : List (List ℕ)) (ks : List ℕ) (set : FinSet nat_cmp) → from_list {R = nat_cmp} ks ≡ set → set ≢ empty → 0 < length (map (name_at names) ks)
some_names names [] set e some = absurd (some (sym e))
some_names names (k ∷ ks) set e some = omega arith

pub record IsSide (names : List (List ℕ)) (set : FinSet nat_cmp) : Type 0 where
  pub given : AreNames (names_in names set)
  pub pass : first_failing (name_checks names [] (names_in names set)) ≡ None
  pub again : numbers_of names (names_in names set) ≡ set

pub side : (names : List (List ℕ)) (set : FinSet nat_cmp) → AreDistinctNames names → IsSomeBelow (length names) set → IsSide names set
side names set are is =
    let ks = numbers_in set (length names) in
    let below = numbers_below (length names) set in
    let same = set_again (length names) set is in
    record {
      given = record {
        some = some_names names ks set same is.some;
        named = All-map IsName (name_at names) ks (All-weaker (λ k. k < length names) (λ k. IsName (name_at names k)) (λ k l. are.named k [] l) ks below);
      };
      pass = ascending_pass names are.apart ks [] ks refl (numbers_rising (length names) set) below;
      again = ap from_list (numbers_again names are.apart ks (recursion_from_All (λ k. k < length names) ks below)) ∙ same;
    }
