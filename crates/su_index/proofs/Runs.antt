-- Lists of positions in order, and what their places say of the values.
use Rattle.std.proofs.Common.{◌≡◌, ◌<◌, ◌≤◌, ◌+◌, ℕ, zero, suc, Bool, true, false, cond, ◌&&◌, List, [], ◌∷◌, ◌++◌, length, get_or, take, drop, refl, arith, count_by, nat_lt, add-one, add-zero}
use Rattle.std.specs.Cmp.{IsTotalOrder, then_total, on_total, nat_cmp_total}
use Rattle.std.specs.List.Sorted.{IsStrictlySortedBy}
use Rattle.std.specs.List.{AllByRecursion}
use Rattle.std.specs.declared.cmp.Ordering.{Ordering}
use Rattle.std.specs.declared.cmp.Ordering.TheVariants.{Less}
use Rattle.std.proofs.lemmas.Bool.Decides.{nat_tests}
use Rattle.std.proofs.lemmas.List.Sums.{sum_by-cons, sum_by-append}
use Rattle.std.proofs.lemmas.List.{take-append-drop}
use Rattle.su_base.specs.declared.values.Value.{Value}
use Rattle.su_base.proofs.Rows.{values_total}
use Rattle.su_index.specs.inside.Lead.{lead_of}
use Rattle.su_base.specs.Numbers.{count_below}
use Rattle.su_index.specs.inside.Order.{compare_keys, compare_places}

pub keys_total : IsTotalOrder compare_keys
keys_total = then_total (on_total lead_of nat_cmp_total) values_total

pub places_total : (at : ℕ → Value) → IsTotalOrder (compare_places at)
places_total at = then_total (on_total at keys_total) nat_cmp_total

-- ---- lists in order

module _ {K : Type 0} (c : K → K → Ordering) where
  -- x is before each of ys, and each of xs is before each of ys
  abbrev pub Before : K → List K → Type 0
  Before x ys = AllByRecursion (λ y. c x y ≡ Less) ys

  abbrev pub AllBefore : List K → List K → Type 0
  AllBefore xs ys = AllByRecursion (λ x. Before x ys) xs

  pub Before-append : (x : K) (ys zs : List K) → Before x ys → Before x zs → Before x (ys ++ zs)
  Before-append x [] zs a b = b
  Before-append x (y ∷ ys) zs a b = (a.0, Before-append x ys zs a.1 b)

  pub Before-append_left : (x : K) (ys zs : List K) → Before x (ys ++ zs) → Before x ys
  Before-append_left x [] zs a = tt
  Before-append_left x (y ∷ ys) zs a = (a.0, Before-append_left x ys zs a.1)

  pub Before-append_right : (x : K) (ys zs : List K) → Before x (ys ++ zs) → Before x zs
  Before-append_right x [] zs a = a
  Before-append_right x (y ∷ ys) zs a = Before-append_right x ys zs a.1

  pub sorted-append : (xs ys : List K) → IsStrictlySortedBy c xs → IsStrictlySortedBy c ys → AllBefore xs ys → IsStrictlySortedBy c (xs ++ ys)
  unfolding IsStrictlySortedBy
  sorted-append [] ys a b all = b
  sorted-append (x ∷ xs) ys a b all = (Before-append x xs ys a.0 all.0, sorted-append xs ys a.1 b all.1)

  pub sorted-append_left : (xs ys : List K) → IsStrictlySortedBy c (xs ++ ys) → IsStrictlySortedBy c xs
  unfolding IsStrictlySortedBy
  sorted-append_left [] ys a = tt
  sorted-append_left (x ∷ xs) ys a = (Before-append_left x xs ys a.0, sorted-append_left xs ys a.1)

  pub sorted-append_right : (xs ys : List K) → IsStrictlySortedBy c (xs ++ ys) → IsStrictlySortedBy c ys
  unfolding IsStrictlySortedBy
  sorted-append_right [] ys a = a
  sorted-append_right (x ∷ xs) ys a = sorted-append_right xs ys a.1

  pub sorted-append_before : (xs ys : List K) → IsStrictlySortedBy c (xs ++ ys) → AllBefore xs ys
  unfolding IsStrictlySortedBy
  sorted-append_before [] ys a = tt
  sorted-append_before (x ∷ xs) ys a = (Before-append_right x xs ys a.0, sorted-append_before xs ys a.1)

  pub sorted-drop : (n : ℕ) (xs : List K) → IsStrictlySortedBy c xs → IsStrictlySortedBy c (drop n xs)
  sorted-drop n xs s = sorted-append_right (take n xs) (drop n xs) (rw take-append-drop s)

  pub sorted_nil : IsStrictlySortedBy c []
  unfolding IsStrictlySortedBy
  sorted_nil = tt

  pub sorted_one : (x : K) → IsStrictlySortedBy c (x ∷ [])
  unfolding IsStrictlySortedBy
  sorted_one x = (tt, tt)

  pub sorted_cons : (x : K) (xs : List K) → Before x xs → IsStrictlySortedBy c xs → IsStrictlySortedBy c (x ∷ xs)
  unfolding IsStrictlySortedBy
  sorted_cons x xs a b = (a, b)

-- ---- counts

pub count_below-suc : (test : ℕ → Bool) (n : ℕ) → count_below test (n + 1) ≡ count_below test n + cond (test n) 1 0
count_below-suc test n = rw add-one refl

-- two tests that agree below n count the same
pub count_below-same : (test other : ℕ → Bool) (n : ℕ) → ((k : ℕ) → k < n → test k ≡ other k) → count_below test n ≡ count_below other n
count_below-same test other zero same = refl
count_below-same test other (suc n) same = rw (count_below-same test other n (λ k h. same k (omega arith)), same n (omega arith)) refl

-- a test that holds below r alone
pub count_below-upto : (test : ℕ → Bool) (r n : ℕ) → r ≤ n → count_below (λ k. nat_lt k r && test k) n ≡ count_below test r
count_below-upto test r zero h = rw (let e : r ≡ 0 = omega arith in e) refl
count_below-upto test r (suc n) h =
    elim (nat_lt n r) as (λ b. nat_lt n r ≡ b → count_below (λ k. nat_lt k r && test k) n + cond (b && test n) 1 0 ≡ count_below test r) [
      | true ↦ λ less.
          let e : r ≡ suc n = grind (arith, nat_tests, less) in
          rw e (rw (count_below-same (λ k. nat_lt k (suc n) && test k) test n (λ k k<n. grind (arith, nat_tests))) refl)
      | false ↦ λ more. rw add-zero (count_below-upto test r n (grind (arith, nat_tests, more)))
    ] refl

module _ {X : Type 0} (test : X → Bool) where
  pub count_by-cons : (x : X) (xs : List X) → count_by test (x ∷ xs) ≡ cond (test x) 1 0 + count_by test xs
  count_by-cons x xs = sum_by-cons (λ y. cond (test y) 1 0) x xs

  pub count_by-append : (xs ys : List X) → count_by test (xs ++ ys) ≡ count_by test xs + count_by test ys
  count_by-append xs ys = sum_by-append (λ y. cond (test y) 1 0) xs ys

  pub count_by-none : (xs : List X) → ((k : ℕ) (d : X) → k < length xs → test (get_or xs k d) ≡ false) → count_by test xs ≡ 0
  count_by-none [] none = refl
  count_by-none (x ∷ xs) none = grind (arith, count_by-cons x xs, none 0 x (omega arith), count_by-none xs (λ k d h. none (suc k) d (omega arith)))

  pub count_by-every : (xs : List X) → ((k : ℕ) (d : X) → k < length xs → test (get_or xs k d) ≡ true) → count_by test xs ≡ length xs
  count_by-every [] every = refl
  count_by-every (x ∷ xs) every = grind (arith, count_by-cons x xs, every 0 x (omega arith), count_by-every xs (λ k d h. every (suc k) d (omega arith)))

  -- what passes stands from low up to high
  pub count_by-block : (xs : List X) (low high : ℕ) → low ≤ high → high ≤ length xs
      → ((k : ℕ) (d : X) → k < low → test (get_or xs k d) ≡ false)
      → ((k : ℕ) (d : X) → low ≤ k → k < high → test (get_or xs k d) ≡ true)
      → ((k : ℕ) (d : X) → high ≤ k → k < length xs → test (get_or xs k d) ≡ false)
      → count_by test xs + low ≡ high
  count_by-block [] low high a b below in' above = omega arith
  count_by-block (x ∷ xs) zero zero a b below in' above = rw add-zero (count_by-none (x ∷ xs) (λ k d h. above k d (omega arith) h))
  count_by-block (x ∷ xs) zero (suc high) a b below in' above =
      grind (arith, count_by-cons x xs, in' 0 x (omega arith) (omega arith), count_by-block xs 0 high (omega arith) (omega arith) (λ k d h. absurd (omega arith)) (λ k d h l. in' (suc k) d (omega arith) (omega arith)) (λ k d h l. above (suc k) d (omega arith) (omega arith)))
  count_by-block (x ∷ xs) (suc low) zero a b below in' above = absurd (omega arith)
  count_by-block (x ∷ xs) (suc low) (suc high) a b below in' above =
      grind (arith, count_by-cons x xs, below 0 x (omega arith), count_by-block xs low high (omega arith) (omega arith) (λ k d h. below (suc k) d (omega arith)) (λ k d h l. in' (suc k) d (omega arith) (omega arith)) (λ k d h l. above (suc k) d (omega arith) (omega arith)))
