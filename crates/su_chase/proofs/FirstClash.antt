-- Loops over items: the first clash so far, and lists with one element more.
use Rattle.std.proofs.Common.{◌≡◌, ℕ, ◌+◌, ◌<◌, ◌≤◌, inl, inr, ⊎_elim, true, false, Option, None, Some, MatchOption, List, [], ◌∷◌, ◌++◌, flat_map, length, take, get_or, Contains, refl, sym, ap, ◌∙◌, subst, arith, below_more}
use Rattle.std.specs.List.Sorted.{IsStrictlySortedBy, IsBinarySearchResult, IsSearchInRange, IsSorted}
use Rattle.std.specs.Result.{MatchResult}
use Rattle.std.specs.Prelude.{Result, Ok, Err}
use Rattle.std.specs.Ordering.{ordering_reverse, is_lt}
use Rattle.std.specs.declared.cmp.Ordering.{Ordering}
use Rattle.std.specs.declared.cmp.Ordering.TheVariants.{Less, Equal as Same, Greater}
use Rattle.std.proofs.lemmas.Bool.{cases_Bool, cases_lt}
use Rattle.std.proofs.lemmas.List.{get_or_default, get_or_push, get_or_append_left, take_all}
use Rattle.std.proofs.lemmas.List.Sorted.{searchable_from_sorted}
use Rattle.std.proofs.lemmas.Map.Keys.{Less-from_sorted}
use Rattle.std.proofs.lemmas.Cmp.{tied_itself}
use Rattle.su_base.specs.declared.values.Value.{Value}
use Rattle.su_base.specs.declared.values.Value.TheVariants.{Text}
use Rattle.su_base.specs.Value.{compare_values}
use Rattle.su_base.specs.contracts.values.ValueOrd.TheImpl.{ghosts as cmp_ghosts}
use Rattle.su_base.proofs.Items.{Contains-flat_map}
use Rattle.su_base.proofs.Rows.{cmp-values, values_total, equal_values}
use Rattle.su_tableau.specs.declared.symbols.Sym.{Sym}
use Rattle.su_tableau.specs.declared.symbols.Sym.TheVariants.{Const, Var}
use Rattle.su_classes.specs.Tables.{rep}
use Rattle.su_classes.specs.inside.Symbols.{has_constant, constant_place}
use Rattle.su_classes.proofs.ValueOrder.{sorted_distinct}
use Rattle.su_classes.proofs.Places.{place_is, place_at, place_none, has_at}
use Rattle.su_chase.specs.inside.Rows.{constant_of, constants_in, IsFirstClash, TakesLesser}

-- ---- lists with one element more

pub pushed_more : {X Y : Type 0} (P : ℕ → X → Y → Type 0) (g : ℕ → X) (ys : List Y) (n : ℕ) (y : Y) → length ys ≡ n → ((i : ℕ) (d : Y) → i < n → P i (g i) (get_or ys i d)) → P n (g n) y → (i : ℕ) (d : Y) → i < n + 1 → P i (g i) (get_or (ys ++ y ∷ []) i d)
pushed_more P g ys n y each before here i d l =
    ⊎_elim
    (λ (lt : i < n). subst (P i (g i)) (sym (get_or_append_left ys (y ∷ []) d i (omega arith))) (before i d lt))
    (λ (ge : n ≤ i).
    let is : n ≡ i = omega arith in
    subst (λ (k : ℕ). P k (g k) (get_or (ys ++ y ∷ []) k d)) is (subst (P n (g n)) (sym (get_or_push ys y d n each)) here))
    (cases_lt i n)

pub names_more : (g : ℕ → Sym) (names : List Sym) (n : ℕ) (x : Sym) → length names ≡ n → ((j : ℕ) → j < n → get_or names j (Var j) ≡ g j) → x ≡ g n → (j : ℕ) → j < n + 1 → get_or (names ++ x ∷ []) j (Var j) ≡ g j
names_more g names n x each before here =
    below_more (λ j. get_or (names ++ x ∷ []) j (Var j) ≡ g j) n
    (λ j l. get_or_append_left names (x ∷ []) (Var j) j (omega arith) ∙ before j l)
    (get_or_push names x (Var n) n each ∙ here)

-- ---- members of many lists

-- all rows are the first ones
pub constants_all : (rows : List (List Sym)) (n : ℕ) (found : List Value) → length rows ≤ n → found ≡ flat_map (λ row. flat_map constant_of row) (take n rows) → found ≡ constants_in rows
constants_all rows n found l e = e ∙ ap (flat_map (λ row. flat_map constant_of row)) (take_all n rows l)

-- a constant of a row is one of the rows' constants
pub constant_in : (rows : List (List Sym)) (r : List Sym) (c : Value) → Contains rows r → Contains r (Const c) → Contains (constants_in rows) c
constant_in rows r c cr cx = Contains-flat_map (λ row. flat_map constant_of row) rows r c cr (Contains-flat_map constant_of r (Const c) c cx (0, omega arith, refl))

pub has_member : (vs : List Value) (c : Value) → Contains vs c → has_constant vs c ≡ true
has_member vs c (i, l, e) = subst (λ (v : Value). has_constant vs v ≡ true) (get_or_default vs i (Text []) c l ∙ e) (has_at vs i l)

-- ---- the place of a constant by a binary search

sorted_plainly : (vs : List Value) → IsStrictlySortedBy compare_values vs → IsSorted compare_values vs
sorted_plainly vs h k d z l =
    let less = Less-from_sorted compare_values vs k (k + 1) d h (omega arith) l in
    let more : compare_values (get_or vs (k + 1) d) (get_or vs k d) ≡ Greater = values_total.antisymm (get_or vs (k + 1) d) (get_or vs k d) ∙ ap ordering_reverse less in
    ap is_lt more

pub place_searched : (vs : List Value) (c : Value) (r : Result ℕ ℕ) → IsStrictlySortedBy compare_values vs → IsSearchInRange r (length vs) → IsBinarySearchResult (λ y. cmp_ghosts.cmp y c) vs r → MatchResult r (λ i. i ≡ constant_place vs c) (λ _. length vs ≡ constant_place vs c)
place_searched vs c (Ok i) sorted range found =
    let e : get_or vs i (Text []) ≡ c = equal_values (get_or vs i (Text [])) c (sym (cmp-values (get_or vs i (Text [])) c) ∙ found (Text [])) in
    sym (place_at vs (sorted_distinct vs sorted) i range) ∙ ap (constant_place vs) e
place_searched vs c (Err i) sorted range found =
    let plain : IsBinarySearchResult (λ y. compare_values y c) vs (Err i) = subst (λ (o : Value → Ordering). IsBinarySearchResult o vs (Err i)) (λ j y. cmp-values y c j) found in
    let parted = plain (searchable_from_sorted values_total (λ v. v) vs c (sorted_plainly vs sorted)) in
    ⊎_elim
    (λ (t : has_constant vs c ≡ true).
    let w = place_is vs c t in
    let p : ℕ = constant_place vs c in
    let same : compare_values (get_or vs p (Text [])) c ≡ Same = ap (λ v. compare_values v c) w.1 ∙ tied_itself values_total c in
    ⊎_elim
    (λ (lt : p < i). let less : compare_values (get_or vs p (Text [])) c ≡ Less = parted.0 p (Text []) (omega arith) lt in let o : Same ≡ Less = sym same ∙ less in absurd (cc))
    (λ (ge : i ≤ p). let more : compare_values (get_or vs p (Text [])) c ≡ Greater = parted.1 p (Text []) ge w.0 in let o : Same ≡ Greater = sym same ∙ more in absurd (cc))
    (cases_lt p i))
    (λ (f : has_constant vs c ≡ false). sym (place_none vs c f))
    (cases_Bool (has_constant vs c))

-- ---- the first clash

module _ (table : List ℕ) (n : ℕ) where
  pub clash_within : (found : Option ℕ) → IsFirstClash n table found → MatchOption found (0 ≤ 0) (λ g. g < n)
  clash_within None h = omega arith
  clash_within (Some g) h = h.0

  pub clash_same : (found : Option ℕ) → IsFirstClash n table found → rep table n ≡ n → IsFirstClash (n + 1) table found
  clash_same None h own = below_more (λ i. rep table i ≡ i) n h own
  clash_same (Some g) h own = (
    (let l = h.0 in omega arith),
    h.1,
    below_more (λ i. rep table i < i → rep table g ≤ rep table i) n h.2 (λ l. absurd (omega arith)),
    h.3,
  )

  pub clash_more : (found new : Option ℕ) → IsFirstClash n table found → rep table n < n → TakesLesser table found n new → IsFirstClash (n + 1) table new
  clash_more None new h less e =
      subst (IsFirstClash (n + 1) table) (sym e) (
        omega arith,
        less,
        below_more (λ i. rep table i < i → rep table n ≤ rep table i) n (λ i l k. let o = h i l in absurd (omega arith)) (λ _. omega arith),
        λ i l k. let o = h i l in absurd (omega arith),
      )
  clash_more (Some g) new h less (inl (lt, e)) =
      subst (IsFirstClash (n + 1) table) (sym e) (
        omega arith,
        less,
        below_more (λ i. rep table i < i → rep table n ≤ rep table i) n (λ i l k. let q = h.2 i l k in omega arith) (λ _. omega arith),
        λ i l k s. let q = h.2 i l k in omega arith,
      )
  clash_more (Some g) new h less (inr (le, e)) =
      subst (IsFirstClash (n + 1) table) (sym e) (
        (let l = h.0 in omega arith),
        h.1,
        below_more (λ i. rep table i < i → rep table g ≤ rep table i) n h.2 (λ _. le),
        h.3,
      )
