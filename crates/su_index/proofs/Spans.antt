-- The places of a value in a list of positions in order, and how many they are.
use Rattle.std.proofs.Common.{◌≡◌, ◌<◌, ◌≤◌, ◌+◌, ◌-◌, ◌&&◌, ℕ, zero, suc, Bool, true, false, cond, List, [], ◌∷◌, length, get_or, take, drop, slice_index, ap, refl, sym, ◌∙◌, arith, inl, inr, count_by, nat_lt, not, pos, add-one}
use Rattle.std.specs.List.Sorted.{IsStrictlySortedBy}
use Rattle.std.specs.Ordering.{nat_cmp, ordering_then, ordering_reverse, is_lt, is_eq}
use Rattle.std.specs.declared.cmp.Ordering.{Ordering}
use Rattle.std.specs.declared.cmp.Ordering.TheVariants.{Less, Equal, Greater}
use Rattle.std.proofs.lemmas.Bool.{false≢true, cases_eq, cases_lt, and_right}
use Rattle.std.proofs.lemmas.Bool.Decides.{nat_tests}
use Rattle.std.proofs.lemmas.List.{take_all, get_or_default, get_or-take, get_or-drop, length-drop, length-take-le}
use Rattle.std.proofs.lemmas.List.Sums.{sum_by_more}
use Rattle.std.proofs.lemmas.Option.{slice_get-get_or, slice_get_within, get_or_from_slice_get}
use Rattle.std.proofs.lemmas.Map.Keys.{Less-from_sorted}
use Rattle.su_base.specs.declared.values.Value.{Value}
use Rattle.su_base.specs.declared.values.Value.TheVariants.{Int}
use Rattle.su_base.proofs.Numbers.{is_eq-Equal}
use Rattle.su_index.specs.Matches.{has_value, matches, AreMatches, IsMatch}
use Rattle.su_base.specs.Numbers.{count_below}
use Rattle.su_index.specs.inside.Order.{compare_keys, compare_places, value_at, IsRun, IsIndex}
use Rattle.su_index.specs.inside.Spans.{comes_before, has_at, HaveColumn, ArePositions, IsSpan}
use Rattle.su_index.proofs.Leads.{same_values}
use Rattle.su_index.proofs.Runs.{keys_total, count_below-same, count_below-upto, count_by-cons, count_by-block}

-- ---- one comparison

eq_below : (o : Ordering) (q : ℕ) → is_lt (ordering_then o (nat_cmp q 0)) ≡ true → is_eq o ≡ false
eq_below Less q e = refl
eq_below Equal q e = grind (arith, nat_tests, e)
eq_below Greater q e = refl

eq_among : (o : Ordering) (q top : ℕ) → is_lt (ordering_then o (nat_cmp q 0)) ≡ false → is_lt (ordering_then o (nat_cmp q top)) ≡ true → is_eq o ≡ true
eq_among Less q top e f = absurd (false≢true (sym e))
eq_among Equal q top e f = refl
eq_among Greater q top e f = absurd (false≢true f)

eq_above : (o : Ordering) (q top : ℕ) → q < top → is_lt (ordering_then o (nat_cmp q top)) ≡ false → is_eq o ≡ false
eq_above Less q top h e = absurd (false≢true (sym e))
eq_above Equal q top h e = grind (arith, nat_tests, h, e)
eq_above Greater q top h e = refl

pub later_too : (o : Ordering) (q top : ℕ) → is_lt (ordering_then o (nat_cmp q 0)) ≡ true → is_lt (ordering_then o (nat_cmp q top)) ≡ true
later_too Less q top e = refl
later_too Equal q top e = grind (arith, nat_tests, e)
later_too Greater q top e = absurd (false≢true e)

then_less : (o : Ordering) (q r : ℕ) → ordering_then o (nat_cmp q r) ≡ Less → o ≡ Equal → q < r
then_less Less q r e f = absurd (cc)
then_less Equal q r e f = grind (arith, nat_tests, e)
then_less Greater q r e f = absurd (cc)

-- two positions with one value are in order as numbers
less_with_value : (at : ℕ → Value) (v : Value) (q r : ℕ) → has_at at v q ≡ true → has_at at v r ≡ true → compare_places at q r ≡ Less → q < r
less_with_value at v q r a b less =
    let e : compare_keys (at q) v ≡ Equal = is_eq-Equal _ a in
    let f : compare_keys (at r) v ≡ Equal = is_eq-Equal _ b in
    let g : compare_keys v (at r) ≡ Equal = keys_total.antisymm v (at r) ∙ ap ordering_reverse f in
    then_less (compare_keys (at q) (at r)) q r less (keys_total.congr (at q) v (at r) e ∙ g)

-- ---- the places that two searches find

pub IsSpan-search : (at : ℕ → Value) (v : Value) (run : List ℕ) (top first past : ℕ) → ArePositions top run → first ≤ length run → past ≤ length run
    → ((k : ℕ) → k < first → comes_before at v 0 (slice_index run k) ≡ true)
    → ((k : ℕ) → first ≤ k → k < length run → comes_before at v 0 (slice_index run k) ≡ false)
    → ((k : ℕ) → k < past → comes_before at v top (slice_index run k) ≡ true)
    → ((k : ℕ) → past ≤ k → k < length run → comes_before at v top (slice_index run k) ≡ false)
    → IsSpan at v run first past
IsSpan-search at v run top first past positions a b below above below' above' = record {
  start = elim (cases_lt past first) [
    | inr le ↦ le
    | inl less ↦ absurd (false≢true (sym (above' past (omega arith) (omega arith)) ∙ later_too (compare_keys (at (slice_index run past)) v) (slice_index run past) top (below past less)))
  ];
  end = b;
  below = λ k h. eq_below (compare_keys (at (slice_index run k)) v) (slice_index run k) (below k h);
  among = λ k h l. eq_among (compare_keys (at (slice_index run k)) v) (slice_index run k) top (above k h (omega arith)) (below' k l);
  above = λ k h l. eq_above (compare_keys (at (slice_index run k)) v) (slice_index run k) top (positions k 0 l) (above' k h l);
}

-- ---- how many positions have the value

pub span_count : (at : ℕ → Value) (v : Value) (run : List ℕ) (first past : ℕ) → IsSpan at v run first past → count_by (has_at at v) run + first ≡ past
span_count at v run first past s =
    count_by-block (has_at at v) run first past s.start s.end
    (λ k d h. rw (get_or_default run k d 0 (omega (arith, s.start, s.end))) (s.below k h))
    (λ k d h l. rw (get_or_default run k d 0 (omega (arith, s.end))) (s.among k h l))
    (λ k d h l. rw (get_or_default run k d 0 l) (s.above k h l))

-- how many of them are less than the k-th
pub span_rank : (at : ℕ → Value) (v : Value) (run : List ℕ) (first past k r : ℕ) → IsStrictlySortedBy (compare_places at) run → IsSpan at v run first past → first + k < past → r ≡ slice_index run (first + k)
    → count_by (λ p. nat_lt p r && has_at at v p) run ≡ k
span_rank at v run first past k r sorted s h e =
    let has : has_at at v r ≡ true = rw e (s.among (first + k) (omega arith) h) in
    let counted : count_by (λ p. nat_lt p r && has_at at v p) run + first ≡ first + k =
    count_by-block (λ p. nat_lt p r && has_at at v p) run first (first + k) (omega arith) (omega (arith, s.end))
    (λ j d l. rw (get_or_default run j d 0 (omega (arith, s.end))) (and_right _ _ (s.below j l)))
    (λ j d l m.
    let one : has_at at v (get_or run j 0) ≡ true = s.among j l (omega arith) in
    let less : get_or run j 0 < r = less_with_value at v (get_or run j 0) r one has (rw e (Less-from_sorted (compare_places at) run j (first + k) 0 sorted m (omega (arith, s.end)))) in
    rw (get_or_default run j d 0 (omega (arith, s.end))) (grind (arith, nat_tests, one, less)))
    (λ j d l m. rw (get_or_default run j d 0 m) (
    elim (cases_lt j past) [
      | inr out ↦ and_right _ _ (s.above j out m)
      | inl in' ↦
          let one : has_at at v (get_or run j 0) ≡ true = s.among j (omega arith) in' in
          elim (cases_eq (first + k) j) [
            | inl same ↦ let f : get_or run j 0 ≡ r = ap (λ i. get_or run i 0) (sym same) ∙ sym e in grind (arith, nat_tests, f)
            | inr apart ↦
                let more : r < get_or run j 0 = less_with_value at v r (get_or run j 0) has one (rw e (Less-from_sorted (compare_places at) run (first + k) j 0 sorted (omega (arith, apart)) m)) in
                grind (arith, nat_tests, more)
          ]
    ])) in
    omega arith

-- ---- positions of a run

pub count_by_zero : (test : ℕ → Bool) (xs : List ℕ) (k d : ℕ) → count_by test xs ≡ 0 → k < length xs → test (get_or xs k d) ≡ false
count_by_zero test [] k d none h = absurd (omega arith)
count_by_zero test (x ∷ xs) zero d none h = grind (arith, count_by-cons test x xs, none)
count_by_zero test (x ∷ xs) (suc k) d none h = count_by_zero test xs k d (grind (arith, count_by-cons test x xs, none)) (omega arith)

count_below_none : (test : ℕ → Bool) (n : ℕ) → ((k : ℕ) → k < n → test k ≡ false) → count_below test n ≡ 0
count_below_none test zero none = refl
count_below_none test (suc n) none = rw (count_below_none test n (λ k h. none k (omega arith)), none n (omega arith)) refl

pub run_positions : (at : ℕ → Value) (from : ℕ) (run : List ℕ) → IsRun at from run → (k d : ℕ) → k < length run → get_or run k d < from + length run
run_positions at from run r k d h =
    let test : ℕ → Bool = λ p. not (nat_lt p (from + length run)) in
    let all : count_below test (from + length run) ≡ 0 = count_below_none test _ (λ j l. grind (arith, nat_tests)) in
    let none : count_by test run ≡ 0 = omega (arith, r.each test, all) in
    let out : test (get_or run k d) ≡ false = count_by_zero test run k d none h in
    grind (arith, nat_tests, out)

upto' : (from n : ℕ) → from ≤ n → count_below (λ p. nat_lt p from) n ≡ count_below (λ p. nat_lt p from) from
upto' from n h =
    count_below-same (λ p. nat_lt p from) (λ p. nat_lt p from && true) n (λ k l. grind (arith, nat_tests))
    ∙ count_below-upto (λ p. true) from n h
    ∙ count_below-same (λ p. true) (λ p. nat_lt p from) from (λ k l. grind (arith, nat_tests))

pub run_from : (at : ℕ → Value) (from : ℕ) (run : List ℕ) → IsRun at from run → (k d : ℕ) → k < length run → from ≤ get_or run k d
run_from at from run r k d h =
    let test : ℕ → Bool = λ p. nat_lt p from in
    let upto : count_below test from ≡ count_below test (from + length run) = sym (upto' from (from + length run) (omega arith)) in
    let none : count_by test run ≡ 0 = omega (arith, r.each test, upto) in
    let out : test (get_or run k d) ≡ false = count_by_zero test run k d none h in
    grind (arith, nat_tests, out)

-- ---- rows

pub count_rows : (test : List Value → Bool) (rows : List (List Value)) (n : ℕ) → n ≤ length rows → count_by test (take n rows) ≡ count_below (λ p. test (get_or rows p [])) n
count_rows test rows zero h = refl
count_rows test rows (suc n) h = rw (← add-one n) (sum_by_more (λ row. cond (test row) 1 0) rows n [] (omega arith) ∙ ap (λ c. c + cond (test (get_or rows n [])) 1 0) (count_rows test rows n (omega arith)))

pub has_value-at : (rows : List (List Value)) (column : ℕ) (v : Value) (p : ℕ) → HaveColumn column rows → p < length rows → has_value column v (get_or rows p []) ≡ has_at (value_at rows column) v p
has_value-at rows column v p columns h = rw (slice_get-get_or (get_or rows p []) column (Int (pos 0)) (columns p [] h)) (sym (same_values (value_at rows column p) v))

pub matches-below : (rows : List (List Value)) (column : ℕ) (v : Value) (n : ℕ) → HaveColumn column rows → n ≤ length rows → matches column v (take n rows) ≡ count_below (has_at (value_at rows column) v) n
matches-below rows column v n columns h = count_rows (has_value column v) rows n h ∙ count_below-same _ _ n (λ k l. has_value-at rows column v k columns (omega arith))

-- ---- an index

module _ (at : ℕ → Value) (n : ℕ) (run : List ℕ) (index : IsIndex at n run) where
  pub index_positions : ArePositions n run
  index_positions k d h = let l = run_positions at 0 run index.run k d h in omega (arith, index.whole, l)

  pub span-below : (v : Value) (a b : ℕ) → IsSpan at v run a b → b - a ≡ count_below (has_at at v) n
  span-below v a b s =
      let one : count_below (has_at at v) 0 + count_by (has_at at v) run ≡ count_below (has_at at v) (0 + length run) = index.run.each (has_at at v) in
      let e : count_below (has_at at v) (0 + length run) ≡ count_below (has_at at v) n = ap (count_below (has_at at v)) (omega (arith, index.whole)) in
      let z : count_below (has_at at v) 0 ≡ 0 = refl in
      omega (arith, span_count at v run a b s, one, e, z, s.start)

  -- the rank of a position
  pub rank_at : (v : Value) (a b k r : ℕ) → IsSpan at v run a b → a + k < b → r ≡ slice_index run (a + k) → count_below (has_at at v) r ≡ k
  rank_at v a b k r s h e =
      let test : ℕ → Bool = λ p. nat_lt p r && has_at at v p in
      let within : r < 0 + length run = rw e (run_positions at 0 run index.run (a + k) 0 (omega (arith, s.end))) in
      let one : count_below test 0 + count_by test run ≡ count_below test (0 + length run) = index.run.each test in
      let f : count_below test (0 + length run) ≡ count_below (has_at at v) r = count_below-upto (has_at at v) r (0 + length run) (omega arith) in
      let z : count_below test 0 ≡ 0 = refl in
      omega (arith, span_rank at v run a b k r index.run.ordered s h e, one, f, z)

-- the matches of a table's rows
module _ (rows : List (List Value)) (column : ℕ) (run : List ℕ) (columns : HaveColumn column rows) (index : IsIndex (value_at rows column) (length rows) run) (v : Value) where
  pub matches-all : matches column v rows ≡ count_below (has_at (value_at rows column) v) (length rows)
  matches-all = ap (matches column v) (sym (take_all (length rows) rows (omega arith))) ∙ matches-below rows column v (length rows) columns (omega arith)

  pub matches-span : (a b : ℕ) → IsSpan (value_at rows column) v run a b → b - a ≡ matches column v rows
  matches-span a b s = span-below (value_at rows column) (length rows) run index v a b s ∙ sym matches-all

  match_at : (k r : ℕ) → r < length rows → has_at (value_at rows column) v r ≡ true → count_below (has_at (value_at rows column) v) r ≡ k → IsMatch column v rows k r
  match_at k r h has rank = record {
    within = h;
    has = has_value-at rows column v r columns h ∙ has;
    rank = matches-below rows column v r columns (omega arith) ∙ rank;
  }

  pub IsMatch-span : (a b k r : ℕ) → IsSpan (value_at rows column) v run a b → a + k < b → r ≡ slice_index run (a + k) → IsMatch column v rows k r
  IsMatch-span a b k r s h e =
      match_at k r (rw e (index_positions _ _ run index (a + k) 0 (omega (arith, s.end)))) (rw e (s.among (a + k) (omega arith) h)) (rank_at _ _ run index v a b k r s h e)

  pub AreMatches-span : (a b n : ℕ) → IsSpan (value_at rows column) v run a b → n + a ≡ b → AreMatches column v rows (take n (drop a run))
  AreMatches-span a b n s e =
      let behind = length-drop a run in
      let len : length (take n (drop a run)) ≡ n = length-take-le n (drop a run) (omega (arith, behind, s.end)) in
      record {
        count = omega (arith, len, matches-span a b s);
        each = λ k p is.
            let less : k < n = omega (arith, len, slice_get_within (take n (drop a run)) k p is) in
            let at : get_or (take n (drop a run)) k 0 ≡ slice_index run (a + k) = get_or-take n (drop a run) k 0 less ∙ get_or-drop a run k 0 in
            IsMatch-span a b k p s (omega arith) (sym (get_or_from_slice_get (take n (drop a run)) k p 0 is) ∙ at);
      }
