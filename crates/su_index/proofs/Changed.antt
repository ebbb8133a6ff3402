-- What an insert and a remove in a list of positions in order leave.
use Rattle.std.proofs.Common.{◌≡◌, ◌<◌, ◌≤◌, ◌+◌, ◌-◌, ◌^◌, ℕ, zero, suc, Bool, true, false, not, cond, List, [], ◌∷◌, ◌++◌, length, get_or, take, drop, ap, refl, sym, ◌∙◌, arith, inl, inr, Contains, count_by, nat_lt, nat_eq, add-one}
use Rattle.std.specs.List.{AllByRecursion, insert, remove}
use Rattle.std.specs.List.Sorted.{IsStrictlySortedBy}
use Rattle.std.specs.Ordering.{nat_cmp, ordering_then, ordering_reverse, is_lt}
use Rattle.std.specs.declared.cmp.Ordering.{Ordering}
use Rattle.std.specs.declared.cmp.Ordering.TheVariants.{Less, Equal, Greater}
use Rattle.std.proofs.lemmas.Cmp.{tied_itself}
use Rattle.std.proofs.lemmas.Bool.{false≢true, cases_eq, cases_lt}
use Rattle.std.proofs.lemmas.Bool.Decides.{nat_tests}
use Rattle.std.proofs.lemmas.List.{take-append-drop, get_or-take, get_or-drop, length-take-le, length-drop, get_or_default, drop_more}
use Rattle.std.proofs.lemmas.List.Elements.{recursion_from_All}
use Rattle.std.proofs.lemmas.List.Edits.{length-remove, get_or-remove_below, get_or-remove_above}
use Rattle.std.proofs.lemmas.Map.Keys.{Less-from_sorted, sorted_from_all_adjacent, sorted_tail}
use Rattle.su_base.specs.declared.values.Value.{Value}
use Rattle.su_base.proofs.Numbers.{is_lt-Less}
use Rattle.su_base.specs.Numbers.{count_below}
use Rattle.su_index.specs.inside.Order.{compare_keys, compare_places, IsRun, IsIndex}
use Rattle.su_index.specs.inside.Spans.{ArePositions, comes_before, with_value}
use Rattle.su_index.proofs.Runs.{keys_total, places_total, count_below-suc, count_by-cons, count_by-append, count_by-none, sorted_nil, Before, AllBefore, sorted-append, sorted-append_left, sorted-append_right, sorted-append_before, sorted_cons}
use Rattle.su_index.proofs.Spans.{index_positions, run_positions, count_by_zero}

-- ---- values that agree

-- the order of the positions is that of other values which agree at them
pub ordered-same : (at other : ℕ → Value) (run : List ℕ) → ((k : ℕ) → k < length run → at (get_or run k 0) ≡ other (get_or run k 0)) → IsStrictlySortedBy (compare_places at) run → IsStrictlySortedBy (compare_places other) run
ordered-same at other run same sorted =
    sorted_from_all_adjacent (places_total other) run 0 (λ k h.
    rw (← same k (omega arith), ← same (k + 1) h) (Less-from_sorted (compare_places at) run k (k + 1) 0 sorted (omega arith) h))

pub run-same : (at other : ℕ → Value) (from : ℕ) (run : List ℕ) → ((p : ℕ) → p < from + length run → at p ≡ other p) → IsRun at from run → IsRun other from run
run-same at other from run same r = record {
  each = r.each;
  ordered = ordered-same at other run (λ k h. same (get_or run k 0) (run_positions at from run r k 0 h)) r.ordered;
}

pub index-same : (at other : ℕ → Value) (n : ℕ) (run : List ℕ) → ((p : ℕ) → p < n → at p ≡ other p) → IsIndex at n run → IsIndex other n run
index-same at other n run same i = record {
  run = run-same at other 0 run (λ p h. same p (omega (arith, i.whole))) i.run;
  whole = i.whole;
  small = i.small;
}

pub with_value-itself : (at : ℕ → Value) (v : Value) (p : ℕ) → with_value at p v p ≡ v
with_value-itself at v p = grind (arith, nat_tests)

pub with_value-other : (at : ℕ → Value) (v : Value) (p q : ℕ) → (q ≡ p → ⊥) → with_value at p v q ≡ at q
with_value-other at v p q apart = grind (arith, nat_tests, apart)

pub with_value-same : (at : ℕ → Value) (p q : ℕ) → with_value at p (at p) q ≡ at q
with_value-same at p q =
    elim (cases_eq q p) [
      | inl e ↦ rw e (with_value-itself at (at p) p)
      | inr apart ↦ with_value-other at (at p) p q apart
    ]

-- ---- an insert

AllBefore-cons : {K : Type 0} (c : K → K → Ordering) (y : K) (xs ys : List K) → AllByRecursion (λ x. c x y ≡ Less) xs → AllBefore c xs ys → AllBefore c xs (y ∷ ys)
AllBefore-cons c y [] ys a b = tt
AllBefore-cons c y (x ∷ xs) ys a b = ((a.0, b.0), AllBefore-cons c y xs ys a.1 b.1)

-- a position that does not come before another one comes after it
pub after : (o : Ordering) (q p : ℕ) → (q ≡ p → ⊥) → is_lt (ordering_then o (nat_cmp q p)) ≡ false → ordering_then o (nat_cmp q p) ≡ Greater
after Less q p apart e = absurd (false≢true (sym e))
after Equal q p apart e = grind (arith, nat_tests, apart, e)
after Greater q p apart e = refl

pub ordered-insert : (at : ℕ → Value) (run : List ℕ) (q p : ℕ) → IsStrictlySortedBy (compare_places at) run → q ≤ length run
    → ((k : ℕ) → k < length run → get_or run k 0 ≡ p → ⊥)
    → ((k : ℕ) → k < q → comes_before at (at p) p (get_or run k 0) ≡ true)
    → ((k : ℕ) → q ≤ k → k < length run → comes_before at (at p) p (get_or run k 0) ≡ false)
    → IsStrictlySortedBy (compare_places at) (insert run q p)
ordered-insert at run q p sorted within apart below above =
    let c : ℕ → ℕ → Ordering = compare_places at in
    let parts : IsStrictlySortedBy c (take q run ++ drop q run) = rw take-append-drop sorted in
    let front : AllByRecursion (λ x. c x p ≡ Less) (take q run) = recursion_from_All (λ x. c x p ≡ Less) (take q run) (λ k d h.
    let l : length (take q run) ≡ q = length-take-le q run within in
    let e : get_or (take q run) k d ≡ get_or run k 0 = get_or-take q run k d (omega arith) ∙ get_or_default run k d 0 (omega arith) in
    rw e (is_lt-Less (c (get_or run k 0) p) (below k (omega arith)))) in
    let back : Before c p (drop q run) = recursion_from_All (λ y. c p y ≡ Less) (drop q run) (λ k d h.
    let l : length (drop q run) ≡ length run - q = length-drop q run in
    let e : get_or (drop q run) k d ≡ get_or run (q + k) 0 = get_or-drop q run k d ∙ get_or_default run (q + k) d 0 (omega arith) in
    let g : c (get_or run (q + k) 0) p ≡ Greater = after (compare_keys (at (get_or run (q + k) 0)) (at p)) (get_or run (q + k) 0) p (apart (q + k) (omega arith)) (above (q + k) (omega arith) (omega arith)) in
    rw e ((places_total at).antisymm p (get_or run (q + k) 0) ∙ ap ordering_reverse g)) in
    sorted-append c (take q run) (p ∷ drop q run)
    (sorted-append_left c (take q run) (drop q run) parts)
    (sorted_cons c p (drop q run) back (sorted-append_right c (take q run) (drop q run) parts))
    (AllBefore-cons c p (take q run) (drop q run) front (sorted-append_before c (take q run) (drop q run) parts))

pub count_by-insert : (test : ℕ → Bool) (run : List ℕ) (q p : ℕ) → count_by test (insert run q p) ≡ count_by test run + cond (test p) 1 0
count_by-insert test run q p =
    let e : count_by test (take q run ++ drop q run) ≡ count_by test run = ap (count_by test) (take-append-drop q run) in
    omega (arith, e, count_by-append test (take q run) (p ∷ drop q run), count_by-append test (take q run) (drop q run), count_by-cons test p (drop q run))

-- ---- a remove

tail_before : {K : Type 0} (c : K → K → Ordering) (y : K) (xs ys : List K) → AllBefore c xs (y ∷ ys) → AllBefore c xs ys
tail_before c y [] ys a = tt
tail_before c y (x ∷ xs) ys a = (a.0.1, tail_before c y xs ys a.1)

pub ordered-remove : (at : ℕ → Value) (run : List ℕ) (q : ℕ) → q < length run → IsStrictlySortedBy (compare_places at) run → IsStrictlySortedBy (compare_places at) (remove run q)
ordered-remove at run q within sorted =
    let c : ℕ → ℕ → Ordering = compare_places at in
    let split : run ≡ take q run ++ (get_or run q 0 ∷ drop (q + 1) run) = sym (take-append-drop q run) ∙ ap (λ s. take q run ++ s) (drop_more run q 0 within) in
    let parts : IsStrictlySortedBy c (take q run ++ (get_or run q 0 ∷ drop (q + 1) run)) = rw (← split) sorted in
    rw (← add-one q)
    (sorted-append c (take q run) (drop (q + 1) run)
    (sorted-append_left c (take q run) (get_or run q 0 ∷ drop (q + 1) run) parts)
    (sorted_tail c (get_or run q 0) (drop (q + 1) run) (sorted-append_right c (take q run) (get_or run q 0 ∷ drop (q + 1) run) parts))
    (tail_before c (get_or run q 0) (take q run) (drop (q + 1) run) (sorted-append_before c (take q run) (get_or run q 0 ∷ drop (q + 1) run) parts)))

pub count_by-remove : (test : ℕ → Bool) (run : List ℕ) (q p : ℕ) → q < length run → get_or run q 0 ≡ p → count_by test (remove run q) + cond (test p) 1 0 ≡ count_by test run
count_by-remove test run q p within e =
    let split : count_by test (take q run ++ (p ∷ drop (q + 1) run)) ≡ count_by test run = ap (count_by test) (sym (sym (take-append-drop q run) ∙ ap (λ s. take q run ++ s) (drop_more run q 0 within ∙ ap (λ x. x ∷ drop (q + 1) run) e))) in
    let same : count_by test (remove run q) ≡ count_by test (take q run ++ drop (q + 1) run) = ap (λ k. count_by test (take q run ++ drop k run)) (sym (add-one q)) in
    omega (arith, split, same, count_by-append test (take q run) (p ∷ drop (q + 1) run), count_by-append test (take q run) (drop (q + 1) run), count_by-cons test p (drop (q + 1) run))

-- the place that a search for a position of the run finds is its own
pub place_found : (at : ℕ → Value) (run : List ℕ) (q p : ℕ) → IsStrictlySortedBy (compare_places at) run → q ≤ length run → Contains run p
    → ((k : ℕ) → k < q → comes_before at (at p) p (get_or run k 0) ≡ true)
    → ((k : ℕ) → q ≤ k → k < length run → comes_before at (at p) p (get_or run k 0) ≡ false)
    → (q < length run) × (get_or run q 0 ≡ p)
place_found at run q p sorted within there below above =
    let j : ℕ = there.0 in
    let is : get_or run j 0 ≡ p = get_or_default run j 0 p there.1 ∙ there.2 in
    let itself : comes_before at (at p) p p ≡ false = ap is_lt (tied_itself (places_total at) p) in
    elim (cases_lt j q) [
      | inl less ↦ absurd (false≢true (sym itself ∙ rw is at (below j less)))
      | inr le ↦ elim (cases_eq q j) [
        | inl e ↦ (rw e there.1, rw e is)
        | inr apart ↦
            let first : compare_places at (get_or run q 0) (get_or run j 0) ≡ Less = Less-from_sorted (compare_places at) run q j 0 sorted (omega (arith, apart)) there.1 in
            absurd (false≢true (sym (above q (omega arith) (omega (arith, there.1))) ∙ ap is_lt (rw is at first)))
      ]
    ]

-- the same insert, where the row at p has come to have the value v
pub ordered-insert_with : (at : ℕ → Value) (v : Value) (run : List ℕ) (q p : ℕ) → IsStrictlySortedBy (compare_places at) run → q ≤ length run → ¬ Contains run p
    → ((k : ℕ) → k < q → comes_before at v p (get_or run k 0) ≡ true)
    → ((k : ℕ) → q ≤ k → k < length run → comes_before at v p (get_or run k 0) ≡ false)
    → IsStrictlySortedBy (compare_places (with_value at p v)) (insert run q p)
ordered-insert_with at v run q p sorted within out below above =
    let other : ℕ → Value = with_value at p v in
    let apart : (k : ℕ) → k < length run → get_or run k 0 ≡ p → ⊥ = λ k h e. out (k, h, get_or_default run k p 0 h ∙ e) in
    let same : (k : ℕ) → k < length run → at (get_or run k 0) ≡ other (get_or run k 0) = λ k h. sym (with_value-other at v p (get_or run k 0) (apart k h)) in
    let itself : other p ≡ v = with_value-itself at v p in
    ordered-insert other run q p (ordered-same at other run same sorted) within apart
    (λ k h. rw (itself, ← same k (omega arith)) (below k h))
    (λ k h l. rw (itself, ← same k l) (above k h l))

-- ---- which positions a run has

pub count_below_one : (p n : ℕ) → count_below (λ q. nat_eq q p) n ≡ cond (nat_lt p n) 1 0
count_below_one p zero = grind (arith, nat_tests)
count_below_one p (suc n) = grind (arith, nat_tests, count_below_one p n)

pub run_once : (at : ℕ → Value) (from : ℕ) (run : List ℕ) (p : ℕ) → IsRun at from run → from ≤ p → p < from + length run → count_by (λ q. nat_eq q p) run ≡ 1
run_once at from run p r low high =
    let below : ◌≡◌ {A = ℕ} (cond (nat_lt p from) 1 0) 0 = grind (arith, nat_tests) in
    let upto : ◌≡◌ {A = ℕ} (cond (nat_lt p (from + length run)) 1 0) 1 = grind (arith, nat_tests) in
    omega (arith, r.each (λ q. nat_eq q p), count_below_one p from, count_below_one p (from + length run), below, upto)

pub there_once : (xs : List ℕ) (p : ℕ) → 0 < count_by (λ q. nat_eq q p) xs → Contains xs p
there_once [] p some = absurd (omega arith)
there_once (x ∷ xs) p some =
    elim (cases_eq x p) [
      | inl e ↦ (0, omega arith, e)
      | inr apart ↦
          let no : ◌≡◌ {A = ℕ} (cond (nat_eq x p) 1 0) 0 = grind (arith, nat_tests, apart) in
          let rest = there_once xs p (omega (arith, some, no, count_by-cons (λ q. nat_eq q p) x xs)) in
          (suc (rest.0), omega (arith, rest.1), rest.2)
    ]

pub absent : (xs : List ℕ) (p : ℕ) → count_by (λ q. nat_eq q p) xs ≡ 0 → ¬ Contains xs p
absent xs p none (k, within, is) = let e : nat_eq (get_or xs k p) p ≡ false = count_by_zero (λ q. nat_eq q p) xs k p none within in grind (arith, nat_tests, e, is)

pub run_apart : (at : ℕ → Value) (from : ℕ) (run : List ℕ) (p : ℕ) → IsRun at from run → from + length run ≤ p → ¬ Contains run p
run_apart at from run p r h (k, within, is) = let l = run_positions at from run r k p within in omega (arith, l, is)

-- ---- runs that change

-- a run without its last position, at values that may be others
pub run_forget : (at other : ℕ → Value) (from : ℕ) (run new : List ℕ) (p : ℕ) → IsRun at from run → IsStrictlySortedBy (compare_places other) new → ((test : ℕ → Bool) → count_by test new + cond (test p) 1 0 ≡ count_by test run) → length new + 1 ≡ length run → p ≡ from + length new → IsRun other from new
run_forget at other from run new p r sorted counted len last = record {
  each = λ test.
      let one : count_below test (from + length run) ≡ count_below test (from + length new) + cond (test p) 1 0 = ap (count_below test) (omega arith) ∙ count_below-suc test (from + length new) ∙ ap (λ q. count_below test (from + length new) + cond (test q) 1 0) (sym last) in
      omega (arith, r.each test, counted test, one);
  ordered = sorted;
}

pub index_add : (at : ℕ → Value) (n : ℕ) (run new : List ℕ) → IsIndex at n run → n + 1 < 2 ^ 32 → IsStrictlySortedBy (compare_places (with_value at n (at n))) new → ((test : ℕ → Bool) → count_by test new ≡ count_by test run + cond (test n) 1 0) → length new ≡ length run + 1 → IsIndex at (n + 1) new
index_add at n run new i small sorted counted len = record {
  run = record {
    each = λ test.
        let one : count_below test (0 + length new) ≡ count_below test n + cond (test n) 1 0 = ap (count_below test) (omega (arith, i.whole)) ∙ count_below-suc test n in
        let two : count_below test (0 + length run) ≡ count_below test n = ap (count_below test) (omega (arith, i.whole)) in
        omega (arith, i.run.each test, counted test, one, two);
    ordered = ordered-same (with_value at n (at n)) at new (λ k h. with_value-same at n (get_or new k 0)) sorted;
  };
  whole = omega (arith, i.whole);
  small = small;
}

pub index_removed : (at other : ℕ → Value) (n : ℕ) (run new : List ℕ) → IsIndex at n run → IsStrictlySortedBy (compare_places other) new → ((test : ℕ → Bool) → count_by test new + cond (test (n - 1)) 1 0 ≡ count_by test run) → length new + 1 ≡ length run → IsIndex other (n - 1) new
index_removed at other n run new i sorted counted len = record {
  run = run_forget at other 0 run new (n - 1) i.run sorted counted len (omega (arith, i.whole));
  whole = omega (arith, i.whole);
  small = omega (arith, i.small);
}

-- what is left of a run has no position that the run had not
pub positions_left : (n p : ℕ) (run new : List ℕ) → ((test : ℕ → Bool) → count_by test new + cond (test p) 1 0 ≡ count_by test run) → ArePositions n run → ArePositions n new
positions_left n p run new counted positions k d h =
    let test : ℕ → Bool = λ q. not (nat_lt q n) in
    let none : count_by test run ≡ 0 = count_by-none test run (λ j e l. let small = positions j e l in grind (arith, nat_tests, small)) in
    let out : test (get_or new k d) ≡ false = count_by_zero test new k d (omega (arith, counted test, none)) h in
    grind (arith, nat_tests, out)

pub absent_left : (p : ℕ) (run new : List ℕ) → ((test : ℕ → Bool) → count_by test new + cond (test p) 1 0 ≡ count_by test run) → count_by (λ q. nat_eq q p) run ≡ 1 → ¬ Contains new p
absent_left p run new counted once =
    let one : ◌≡◌ {A = ℕ} (cond (nat_eq p p) 1 0) 1 = grind (arith, nat_tests) in
    absent new p (omega (arith, counted (λ q. nat_eq q p), once, one))

-- another position stays in what is left
pub there_left : (p q : ℕ) (run new : List ℕ) → ((test : ℕ → Bool) → count_by test new + cond (test p) 1 0 ≡ count_by test run) → count_by (λ r. nat_eq r q) run ≡ 1 → (p ≡ q → ⊥) → Contains new q
there_left p q run new counted once apart =
    let none : ◌≡◌ {A = ℕ} (cond (nat_eq p q) 1 0) 0 = grind (arith, nat_tests, apart) in
    there_once new q (omega (arith, counted (λ r. nat_eq r q), once, none))

module _ (at : ℕ → Value) (n : ℕ) (run : List ℕ) (i : IsIndex at n run) where
  pub index_once : (p : ℕ) → p < n → count_by (λ q. nat_eq q p) run ≡ 1
  index_once p h = run_once at 0 run p i.run (omega arith) (omega (arith, i.whole))

  pub index_apart : (p : ℕ) → n ≤ p → ¬ Contains run p
  index_apart p h = run_apart at 0 run p i.run (omega (arith, i.whole))

  pub positions_more : (m : ℕ) → n ≤ m → ArePositions m run
  positions_more m h k d l = let q = index_positions at n run i k d l in omega (arith, q)

-- an index of a run
pub index_of_run : (at : ℕ → Value) (n : ℕ) (run : List ℕ) → IsRun at 0 run → length run ≡ n → n < 2 ^ 32 → IsIndex at n run
index_of_run at n run r len small = record { run = r; whole = len; small = small }

pub empty_run : (at : ℕ → Value) → IsRun at 0 []
empty_run at = record { each = λ test. refl; ordered = sorted_nil (compare_places at) }

-- ---- a position that takes the place of a greater one with its value

-- a place that comes before a later one with the same value stands no later in the run
pub renamed_order : (at : ℕ → Value) (run : List ℕ) (s t from to : ℕ) → to < from → s < length run → get_or run s 0 ≡ from
    → ((k : ℕ) → k < t → comes_before at (at from) to (get_or run k 0) ≡ true) → t ≤ s
renamed_order at run s t from to less within is below =
    elim (cases_lt s t) [
      | inr le ↦ le
      | inl more ↦
          let one : comes_before at (at from) to from ≡ true = rw is at (below s more) in
          let same : compare_keys (at from) (at from) ≡ Equal = tied_itself keys_total (at from) in
          absurd (grind (arith, nat_tests, less, rw same at one))
    ]

pub absent_removed : (run : List ℕ) (s p : ℕ) → s < length run → ¬ Contains run p → ¬ Contains (remove run s) p
absent_removed run s p within out there =
    let left : List ℕ = remove run s in
    let len : length left + 1 ≡ length run = length-remove run s within in
    elim (cases_lt there.0 s) [
      | inr le ↦ out (there.0 + 1, omega (arith, len, there.1), sym (get_or-remove_above run s p there.0 le within) ∙ there.2)
      | inl less ↦ out (there.0, omega (arith, len, there.1), sym (get_or-remove_below run s p there.0 less within) ∙ there.2)
    ]

pub ordered-renamed : (at : ℕ → Value) (run : List ℕ) (s t from to : ℕ) → IsStrictlySortedBy (compare_places at) run → s < length run → t ≤ s → ¬ Contains run to
    → ((k : ℕ) → k < t → comes_before at (at from) to (get_or run k 0) ≡ true)
    → ((k : ℕ) → t ≤ k → k < length run → comes_before at (at from) to (get_or run k 0) ≡ false)
    → IsStrictlySortedBy (compare_places (with_value at to (at from))) (insert (remove run s) t to)
ordered-renamed at run s t from to sorted within order out below above =
    let left : List ℕ = remove run s in
    let len : length left + 1 ≡ length run = length-remove run s within in
    let first : (k : ℕ) → k < s → get_or left k 0 ≡ get_or run k 0 = λ k h. get_or-remove_below run s 0 k h within in
    let later : (k : ℕ) → s ≤ k → get_or left k 0 ≡ get_or run (k + 1) 0 = λ k h. get_or-remove_above run s 0 k h within in
    let apart : ¬ Contains left to = absent_removed run s to within out in
    ordered-insert_with at (at from) left t to (ordered-remove at run s within sorted) (omega (arith, len)) apart
    (λ k h. rw (first k (omega arith)) (below k h))
    (λ k h l. elim (cases_lt k s) [
      | inr le ↦ rw (later k le) (above (k + 1) (omega arith) (omega (arith, len, l)))
      | inl less ↦ rw (first k less) (above k h (omega (arith, len, l)))
    ])
