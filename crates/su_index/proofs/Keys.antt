-- Positions with their values: what is added to such a list, and what a sort makes of it.
use Rattle.std.proofs.Common.{◌≡◌, ◌<◌, ◌≤◌, ◌+◌, ℕ, zero, suc, Bool, true, false, cond, List, [], ◌∷◌, ◌++◌, map, length, get_or, ap, refl, sym, ◌∙◌, arith, All, count_by, nat_eq, add-one, subst}
use Rattle.std.specs.List.Sorted.{IsPermutation, IsSorted}
use Rattle.std.specs.Ordering.{nat_cmp, ordering_then, ordering_reverse, is_lt}
use Rattle.std.specs.declared.cmp.Ordering.{Ordering}
use Rattle.std.specs.declared.cmp.Ordering.TheVariants.{Less, Greater}
use Rattle.std.proofs.lemmas.Bool.Decides.{nat_tests}
use Rattle.std.proofs.lemmas.List.{length-map}
use Rattle.std.proofs.lemmas.List.Folds.{fold-map}
use Rattle.std.proofs.lemmas.List.Sorted.{sum_by-IsPermutation, length_permutation, All-permutation}
use Rattle.std.proofs.lemmas.List.Sums.{sum_by_push}
use Rattle.std.proofs.lemmas.Map.Keys.{sorted_from_all_adjacent}
use Rattle.su_base.proofs.Items.{some_item}
use Rattle.su_base.specs.declared.values.Value.{Value}
use Rattle.su_base.specs.contracts.values.ValueOrd.TheImpl.{ghosts}
use Rattle.su_base.specs.Value.{compare_values}
use Rattle.su_base.proofs.Rows.{cmp-values}
use Rattle.su_index.specs.inside.Keys.{Key}
use Rattle.su_index.specs.inside.Lead.{lead_of, IsLead}
use Rattle.su_base.specs.Numbers.{count_below}
use Rattle.su_index.specs.inside.Order.{compare_keys, compare_places, IsRun}
use Rattle.su_index.proofs.Runs.{places_total, count_by-cons, count_below-suc}
use Rattle.su_index.proofs.Changed.{after, count_below_one}

pub each_pushed : (keys news : List Key) (key : Key) (from n : ℕ) → news ≡ keys ++ key ∷ [] → key.2 ≡ n → ((test : ℕ → Bool) → count_below test from + count_by (λ (k : Key). test k.2) keys ≡ count_below test n) → (test : ℕ → Bool) → count_below test from + count_by (λ (k : Key). test k.2) news ≡ count_below test (n + 1)
each_pushed keys news key from n e is each test =
    let one : count_by (λ (k : Key). test k.2) news ≡ count_by (λ (k : Key). test k.2) keys + cond (test n) 1 0 = ap (count_by (λ (k : Key). test k.2)) e ∙ sum_by_push (λ (k : Key). cond (test k.2) 1 0) keys key ∙ ap (λ p. count_by (λ (k : Key). test k.2) keys + cond (test p) 1 0) is in
    omega (arith, each test, one, count_below-suc test n)

-- ---- a sort

count_by-map : (test : ℕ → Bool) (keys : List Key) → count_by test (map (λ k. k.2) keys) ≡ count_by (λ (k : Key). test k.2) keys
count_by-map test keys = fold-map (λ a x. a + cond (test x) 1 0) (λ (k : Key). k.2) 0 keys

get_or-map : (keys : List Key) (i : ℕ) (d : Key) (e : ℕ) → i < length keys → get_or (map (λ k. k.2) keys) i e ≡ (get_or keys i d).2
get_or-map [] i d e h = absurd (omega arith)
get_or-map (k ∷ keys) zero d e h = refl
get_or-map (k ∷ keys) (suc i) d e h = get_or-map keys i d e (omega arith)

counted : (test : ℕ → Bool) (xs : List ℕ) (j : ℕ) → j < length xs → test (get_or xs j 0) ≡ true → 0 < count_by test xs
counted test [] j h e = absurd (omega arith)
counted test (x ∷ xs) zero h e = grind (arith, count_by-cons test x xs, e)
counted test (x ∷ xs) (suc j) h e = omega (arith, count_by-cons test x xs, counted test xs j (omega arith) e)

counted_twice : (test : ℕ → Bool) (xs : List ℕ) (j : ℕ) → suc j < length xs → test (get_or xs j 0) ≡ true → test (get_or xs (suc j) 0) ≡ true → 1 < count_by test xs
counted_twice test [] j h e f = absurd (omega arith)
counted_twice test (x ∷ xs) zero h e f = grind (arith, count_by-cons test x xs, e, counted test xs 0 (omega arith) f)
counted_twice test (x ∷ xs) (suc j) h e f = omega (arith, count_by-cons test x xs, counted_twice test xs j (omega arith) e f)

-- how keys are compared: by lead, then value, then position
abbrev pub key_cmp : Key → Key → Ordering
key_cmp a b = ordering_then (ordering_then (nat_cmp a.0 b.0) (ghosts.cmp a.1.now b.1.now)) (nat_cmp a.2 b.2)

-- the order of two keys is that of their positions
same_key : (at : ℕ → Value) (a b : Key) → IsLead a.0 a.1.now × (a.1.now ≡ at a.2) → IsLead b.0 b.1.now × (b.1.now ≡ at b.2) → compare_places at b.2 a.2 ≡ key_cmp b a
same_key at a b e f =
    ap (λ v. ordering_then (compare_keys v (at a.2)) (nat_cmp b.2 a.2)) (sym f.1)
    ∙ ap (λ v. ordering_then (compare_keys b.1.now v) (nat_cmp b.2 a.2)) (sym e.1)
    ∙ ap (λ m. ordering_then (ordering_then (nat_cmp m (lead_of a.1.now)) (compare_values b.1.now a.1.now)) (nat_cmp b.2 a.2)) (sym f.0)
    ∙ ap (λ m. ordering_then (ordering_then (nat_cmp b.0 m) (compare_values b.1.now a.1.now)) (nat_cmp b.2 a.2)) (sym e.0)
    ∙ ap (λ o. ordering_then (ordering_then (nat_cmp b.0 a.0) o) (nat_cmp b.2 a.2)) (sym (cmp-values b.1.now a.1.now))

module _ (at : ℕ → Value) (from n : ℕ) (keys sorted : List Key) (perm : IsPermutation keys sorted)
    (values : All (λ key. IsLead key.0 key.1.now × (key.1.now ≡ at key.2)) keys)
    (each : (test : ℕ → Bool) → count_below test from + count_by (λ (k : Key). test k.2) keys ≡ count_below test n)
    (len : from + length keys ≡ n)
    (order : IsSorted key_cmp sorted) where
  abbrev pub run : List ℕ
  run = map (λ (k : Key). k.2) sorted

  run_length : length run ≡ length keys
  run_length = length-map sorted (λ k. k.2) ∙ length_permutation keys sorted perm

  run_each : (test : ℕ → Bool) → count_below test from + count_by test run ≡ count_below test (from + length run)
  run_each test =
      let a : count_by (λ (k : Key). test k.2) sorted ≡ count_by (λ (k : Key). test k.2) keys = sum_by-IsPermutation (λ (k : Key). cond (test k.2) 1 0) keys sorted perm in
      let b : count_below test (from + length run) ≡ count_below test n = ap (count_below test) (omega (arith, len, run_length)) in
      omega (arith, each test, a, b, count_by-map test sorted)

  run_adjacent : (k : ℕ) → k + 1 < length run → compare_places at (get_or run k 0) (get_or run (k + 1) 0) ≡ Less
  run_adjacent k h =
      let p : ℕ = get_or run k 0 in
      let q : ℕ = get_or run (k + 1) 0 in
      let apart : q ≡ p → ⊥ = λ same.
      let twice : 1 < count_by (λ x. nat_eq x p) run = counted_twice (λ x. nat_eq x p) run k (omega arith) (grind (arith, nat_tests)) (subst (λ i. nat_eq (get_or run i 0) p ≡ true) (add-one k) (grind (arith, nat_tests, same))) in
      let low : count_below (λ x. nat_eq x p) (from + length run) ≤ 1 = grind (arith, nat_tests, count_below_one p (from + length run)) in
      omega (arith, run_each (λ x. nat_eq x p), twice, low) in
      let all : All (λ (key : Key). IsLead key.0 key.1.now × (key.1.now ≡ at key.2)) sorted = All-permutation (λ (key : Key). IsLead key.0 key.1.now × (key.1.now ≡ at key.2)) keys sorted perm values in
      let n' : length run ≡ length sorted = length-map sorted (λ k. k.2) in
      let d : Key = some_item sorted (omega arith) in
      let a : Key = get_or sorted k d in
      let b : Key = get_or sorted (k + 1) d in
      let is_p : p ≡ a.2 = get_or-map sorted k d 0 (omega arith) in
      let is_q : q ≡ b.2 = get_or-map sorted (k + 1) d 0 (omega arith) in
      let e : compare_places at b.2 a.2 ≡ key_cmp b a = same_key at a b (all k d (omega arith)) (all (k + 1) d (omega arith)) in
      let f : is_lt (compare_places at b.2 a.2) ≡ false = ap is_lt e ∙ order k d (omega arith) (omega arith) in
      let g : compare_places at b.2 a.2 ≡ Greater = after (compare_keys (at b.2) (at a.2)) b.2 a.2 (λ same. apart (is_q ∙ same ∙ sym is_p)) f in
      rw (is_p, is_q) ((places_total at).antisymm a.2 b.2 ∙ ap ordering_reverse g)

  pub IsRun-sorted : IsRun at from run
  IsRun-sorted = record { each = run_each; ordered = sorted_from_all_adjacent (places_total at) run 0 run_adjacent }
