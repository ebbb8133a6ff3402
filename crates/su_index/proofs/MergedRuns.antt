-- Two runs that are made one: of what is merged so far each comes before all that is left of both.
use Rattle.std.proofs.Common.{◌≡◌, ◌<◌, ◌≤◌, ◌+◌, ◌-◌, ℕ, Bool, true, false, cond, List, [], ◌∷◌, ◌++◌, length, get_or, take, drop, ap, subst, refl, sym, ◌∙◌, arith, count_by, length-append}
use Rattle.std.proofs.Math.Seq.{take-add}
use Rattle.std.specs.List.Sorted.{IsStrictlySortedBy}
use Rattle.std.specs.Ordering.{ordering_reverse}
use Rattle.std.specs.declared.cmp.Ordering.{Ordering}
use Rattle.std.specs.declared.cmp.Ordering.TheVariants.{Less, Greater}
use Rattle.std.specs.Cmp.{IsTotalOrder}
use Rattle.std.proofs.lemmas.List.{take-append-drop, get_or-take, get_or-drop, length-take-le, length-drop, get_or_default, drop_more, drop-drop, take_all}
use Rattle.std.proofs.lemmas.List.Sums.{sum_by_more}
use Rattle.std.proofs.lemmas.List.Elements.{recursion_from_All}
use Rattle.std.proofs.lemmas.Map.Keys.{sorted_head}
use Rattle.su_base.specs.declared.values.Value.{Value}
use Rattle.su_base.proofs.Numbers.{is_lt-Less}
use Rattle.su_base.specs.Numbers.{count_below}
use Rattle.su_index.specs.inside.Order.{compare_keys, compare_places, IsRun}
use Rattle.su_index.specs.inside.Spans.{comes_before}
use Rattle.su_index.proofs.Runs.{places_total, count_by-cons, count_by-append, Before, AllBefore, Before-append_left, Before-append_right, sorted-append, sorted-append_left, sorted-append_before, sorted_one, sorted_nil, sorted-drop}
use Rattle.su_index.proofs.Spans.{run_positions, run_from}
use Rattle.su_index.proofs.Changed.{after}

module _ {K : Type 0} (c : K → K → Ordering) where
  AllBefore-append : (xs ys zs : List K) → AllBefore c xs zs → AllBefore c ys zs → AllBefore c (xs ++ ys) zs
  AllBefore-append [] ys zs a b = b
  AllBefore-append (x ∷ xs) ys zs a b = (a.0, AllBefore-append xs ys zs a.1 b)

  AllBefore-left : (xs ys zs : List K) → AllBefore c xs (ys ++ zs) → AllBefore c xs ys
  AllBefore-left [] ys zs a = tt
  AllBefore-left (x ∷ xs) ys zs a = (Before-append_left c x ys zs a.0, AllBefore-left xs ys zs a.1)

  AllBefore-right : (xs ys zs : List K) → AllBefore c xs (ys ++ zs) → AllBefore c xs zs
  AllBefore-right [] ys zs a = tt
  AllBefore-right (x ∷ xs) ys zs a = (Before-append_right c x ys zs a.0, AllBefore-right xs ys zs a.1)

  AllBefore-nil : (xs : List K) → AllBefore c xs []
  AllBefore-nil [] = tt
  AllBefore-nil (x ∷ xs) = (tt, AllBefore-nil xs)

  -- what is before x is before all that x is before
  Before-trans : IsTotalOrder c → (w x : K) (ys : List K) → c w x ≡ Less → Before c x ys → Before c w ys
  Before-trans o w x [] h a = tt
  Before-trans o w x (y ∷ ys) h a = (o.trans w x y h a.0, Before-trans o w x ys h a.1)

  AllBefore-trans : IsTotalOrder c → (ws : List K) (x : K) (ys : List K) → AllBefore c ws (x ∷ []) → Before c x ys → AllBefore c ws ys
  AllBefore-trans o [] x ys a b = tt
  AllBefore-trans o (w ∷ ws) x ys a b = (Before-trans o w x ys a.0.0 b, AllBefore-trans o ws x ys a.1 b)

pub record Merging (at : ℕ → Value) (early late run : List ℕ) (from j : ℕ) : Type 0 where
  pub within : from ≤ length early
  pub ordered : IsStrictlySortedBy (compare_places at) run
  pub counted : (test : ℕ → Bool) → count_by test run ≡ count_by test (take from early) + count_by test (take j late)
  pub early_after : AllBefore (compare_places at) run (drop from early)
  pub late_after : AllBefore (compare_places at) run (drop j late)
  pub len : length run ≡ from + j

pub merge_none : (at : ℕ → Value) (early late : List ℕ) → Merging at early late [] 0 0
merge_none at early late = record {
  within = omega arith;
  ordered = sorted_nil (compare_places at);
  counted = λ test. refl;
  early_after = tt;
  late_after = tt;
  len = refl;
}

module _ (at : ℕ → Value) (early late run : List ℕ) (from j p count : ℕ) (e : IsRun at 0 early) (l : IsRun at (length early) late) (m : Merging at early late run from j) (more : j < length late) (is : p ≡ get_or late j 0) (short : count ≤ length (drop from early))
    (below : (k : ℕ) → k < count → comes_before at (at p) p (get_or (drop from early) k 0) ≡ true)
    (above : (k : ℕ) → count ≤ k → k < length (drop from early) → comes_before at (at p) p (get_or (drop from early) k 0) ≡ false) where
  abbrev pub c : ℕ → ℕ → Ordering
  c = compare_places at

  abbrev pub rest : List ℕ
  rest = drop from early

  late_split : drop j late ≡ p ∷ drop (j + 1) late
  late_split = drop_more late j 0 more ∙ ap (λ x. x ∷ drop (j + 1) late) (sym is)

  rest_split : rest ≡ take count rest ++ drop count rest
  rest_split = sym (take-append-drop count rest)

  rest_ordered : IsStrictlySortedBy c rest
  rest_ordered = sorted-drop c from early e.ordered

  late_ordered : IsStrictlySortedBy c (p ∷ drop (j + 1) late)
  late_ordered = rw (← late_split) (sorted-drop c j late l.ordered)

  late_from : length early ≤ p
  late_from = rw is (run_from at (length early) late l j 0 more)

  taken_before : AllBefore c (take count rest) (p ∷ [])
  taken_before = recursion_from_All (λ x. Before c x (p ∷ [])) (take count rest) (λ k d h.
      let n : length (take count rest) ≡ count = length-take-le count rest short in
      let g : get_or (take count rest) k d ≡ get_or rest k 0 = get_or-take count rest k d (omega arith) ∙ get_or_default rest k d 0 (omega arith) in
      rw g (is_lt-Less (c (get_or rest k 0) p) (below k (omega arith)), tt))

  left_after : Before c p (drop count rest)
  left_after = recursion_from_All (λ y. c p y ≡ Less) (drop count rest) (λ k d h.
      let n : length (drop count rest) ≡ length rest - count = length-drop count rest in
      let g : get_or (drop count rest) k d ≡ get_or rest (count + k) 0 = get_or-drop count rest k d ∙ get_or_default rest (count + k) d 0 (omega arith) in
      let f : get_or rest (count + k) 0 ≡ get_or early (from + (count + k)) 0 = get_or-drop from early (count + k) 0 in
      let w : length rest ≡ length early - from = length-drop from early in
      let small : get_or early (from + (count + k)) 0 < 0 + length early = run_positions at 0 early e (from + (count + k)) 0 (omega arith) in
      let apart : get_or rest (count + k) 0 ≡ p → ⊥ = λ same. omega (arith, late_from, small, f, same) in
      let o : c (get_or rest (count + k) 0) p ≡ Greater = after (compare_keys (at (get_or rest (count + k) 0)) (at p)) (get_or rest (count + k) 0) p apart (above (count + k) (omega arith) (omega arith)) in
      rw g ((places_total at).antisymm p (get_or rest (count + k) 0) ∙ ap ordering_reverse o))

  run_before_rest : AllBefore c run (take count rest ++ drop count rest)
  run_before_rest = rw (← rest_split) m.early_after

  run_before_late : AllBefore c run (p ∷ drop (j + 1) late)
  run_before_late = subst (λ ys. AllBefore c run ys) late_split m.late_after

  rest_before : AllBefore c (take count rest) (drop count rest)
  rest_before = sorted-append_before c (take count rest) (drop count rest) (rw (← rest_split) rest_ordered)

  pub merge_step : Merging at early late ((run ++ take count rest) ++ p ∷ []) (from + count) (j + 1)
  merge_step = record {
    within = let w : length rest ≡ length early - from = length-drop from early in omega (arith, m.within, w, short);
    ordered = sorted-append c (run ++ take count rest) (p ∷ [])
        (sorted-append c run (take count rest) m.ordered (sorted-append_left c (take count rest) (drop count rest) (rw (← rest_split) rest_ordered)) (AllBefore-left c run (take count rest) (drop count rest) run_before_rest))
        (sorted_one c p)
        (AllBefore-append c run (take count rest) (p ∷ []) (AllBefore-left c run (p ∷ []) (drop (j + 1) late) run_before_late) taken_before);
    counted = λ test.
        let a : count_by test (take (from + count) early) ≡ count_by test (take from early) + count_by test (take count rest) = ap (count_by test) (take-add from count early) ∙ count_by-append test (take from early) (take count rest) in
        let b : count_by test (take (j + 1) late) ≡ count_by test (take j late) + cond (test p) 1 0 = sum_by_more (λ x. cond (test x) 1 0) late j 0 more ∙ ap (λ x. count_by test (take j late) + cond (test x) 1 0) (sym is) in
        omega (arith, m.counted test, a, b, count_by-append test (run ++ take count rest) (p ∷ []), count_by-append test run (take count rest), count_by-cons test p []);
    early_after = rw (sym (drop-drop count from early))
        (AllBefore-append c (run ++ take count rest) (p ∷ []) (drop count rest)
        (AllBefore-append c run (take count rest) (drop count rest) (AllBefore-right c run (take count rest) (drop count rest) run_before_rest) rest_before)
        (left_after, tt));
    late_after = AllBefore-append c (run ++ take count rest) (p ∷ []) (drop (j + 1) late)
        (AllBefore-append c run (take count rest) (drop (j + 1) late) (AllBefore-right c run (p ∷ []) (drop (j + 1) late) run_before_late) (AllBefore-trans c (places_total at) (take count rest) p (drop (j + 1) late) taken_before (sorted_head c p (drop (j + 1) late) late_ordered)))
        (sorted_head c p (drop (j + 1) late) late_ordered, tt);
    len =
        let n : length (take count rest) ≡ count = length-take-le count rest short in
        omega (arith, m.len, n, length-append (run ++ take count rest) (p ∷ []), length-append run (take count rest));
  }

-- the end: what is left of the early run comes last
pub merge_end : (at : ℕ → Value) (early late run : List ℕ) (from j : ℕ) → IsRun at 0 early → IsRun at (length early) late → Merging at early late run from j → length late ≤ j → j ≤ length late → IsRun at 0 (run ++ drop from early) × (length (run ++ drop from early) ≡ length early + length late)
merge_end at early late run from j e l m all most =
    let w : length (drop from early) ≡ length early - from = length-drop from early in
    let len : length (run ++ drop from early) ≡ length early + length late = omega (arith, m.len, m.within, w, length-append run (drop from early)) in (
      record {
        each = λ test.
            let a : count_by test (take from early) + count_by test (drop from early) ≡ count_by test early = sym (count_by-append test (take from early) (drop from early)) ∙ ap (count_by test) (take-append-drop from early) in
            let b : count_by test (take j late) ≡ count_by test late = ap (count_by test) (take_all j late all) in
            let f : count_below test (0 + length early) ≡ count_below test (length early) = ap (count_below test) (omega arith) in
            let g : count_below test (0 + length (run ++ drop from early)) ≡ count_below test (length early + length late) = ap (count_below test) (omega (arith, len)) in
            omega (arith, m.counted test, a, b, f, g, e.each test, l.each test, count_by-append test run (drop from early));
        ordered = sorted-append (compare_places at) run (drop from early) m.ordered (sorted-drop (compare_places at) from early e.ordered) m.early_after;
      },
      len,
    )
