-- The rows that are kept, in their order: where each comes to, and what becomes of a run.
use Rattle.std.proofs.Common.{◌≡◌, ◌<◌, ◌≤◌, ◌+◌, ◌&&◌, ℕ, zero, suc, Bool, true, false, cond, List, [], ◌∷◌, map, filter, length, get_or, ap, refl, ◌∙◌, arith, count_by, nat_lt, add-zero}
use Rattle.std.specs.List.{items_where_true}
use Rattle.std.specs.List.Sorted.{IsStrictlySortedBy}
use Rattle.std.specs.Ordering.{nat_cmp, ordering_then}
use Rattle.std.specs.declared.cmp.Ordering.{Ordering}
use Rattle.std.specs.declared.cmp.Ordering.TheVariants.{Less, Equal, Greater}
use Rattle.std.proofs.lemmas.Bool.Decides.{nat_tests}
use Rattle.std.proofs.lemmas.Map.Keys.{sorted_head, sorted_tail}
use Rattle.su_base.specs.declared.values.Value.{Value}
use Rattle.su_base.specs.Numbers.{count_below}
use Rattle.su_index.specs.inside.Order.{compare_keys, compare_places, IsRun, IsIndex}
use Rattle.su_index.specs.inside.Spans.{is_kept, rank_of}
use Rattle.su_index.proofs.Runs.{count_below-suc, count_by-cons, Before, sorted_cons, sorted_nil}

pub count_below-le : (test : ℕ → Bool) (m n : ℕ) → m ≤ n → count_below test m ≤ count_below test n
count_below-le test m zero h = rw (let e : m ≡ 0 = omega arith in e) (omega arith)
count_below-le test m (suc n) h =
    elim (nat_lt n m) as (λ b. nat_lt n m ≡ b → count_below test m ≤ count_below test n + cond (test n) 1 0) [
      | true ↦ λ more. rw (let e : m ≡ suc n = grind (arith, nat_tests, more) in e) (omega arith)
      | false ↦ λ less. omega (arith, count_below-le test m n (grind (arith, nat_tests, less)))
    ] refl

count_below-most : (test : ℕ → Bool) (n : ℕ) → count_below test n ≤ n
count_below-most test zero = omega arith
count_below-most test (suc n) = grind (arith, count_below-most test n)

pub rank-le : (kept : List Bool) (n : ℕ) → rank_of kept n ≤ n
rank-le kept n = count_below-most (is_kept kept) n

count_below-true : (n : ℕ) → count_below (λ p. true) n ≡ n
count_below-true zero = refl
count_below-true (suc n) = omega (arith, count_below-true n)

count_by-true : (xs : List ℕ) → count_by (λ p. true) xs ≡ length xs
count_by-true [] = refl
count_by-true (x ∷ xs) = omega (arith, count_by-true xs, count_by-cons (λ p. true) x xs)

module _ (kept : List Bool) where
  -- ranks rise along the kept positions
  rank_less : (p q : ℕ) → is_kept kept p ≡ true → p < q → rank_of kept p < rank_of kept q
  rank_less p q k h =
      let one : rank_of kept (p + 1) ≡ rank_of kept p + cond (is_kept kept p) 1 0 = count_below-suc (is_kept kept) p in
      grind (arith, one, k, count_below-le (is_kept kept) (p + 1) q (omega arith))

  -- counting at the ranks
  count_ranks : (test : ℕ → Bool) (n : ℕ) → count_below (λ p. is_kept kept p && test (rank_of kept p)) n ≡ count_below test (rank_of kept n)
  count_ranks test zero = refl
  count_ranks test (suc n) =
      elim (is_kept kept n) as (λ b. is_kept kept n ≡ b → count_below (λ p. is_kept kept p && test (rank_of kept p)) n + cond (b && test (rank_of kept n)) 1 0 ≡ count_below test (rank_of kept n + cond b 1 0)) [
        | true ↦ λ k. rw (count_ranks test n, count_below-suc) refl
        | false ↦ λ k. rw (add-zero, add-zero) (count_ranks test n)
      ] refl

  count_kept : (test : ℕ → Bool) (run : List ℕ) → count_by test (map (rank_of kept) (filter (is_kept kept) run)) ≡ count_by (λ p. is_kept kept p && test (rank_of kept p)) run
  count_kept test [] = refl
  count_kept test (p ∷ run) =
      elim (is_kept kept p) as (λ b. is_kept kept p ≡ b → count_by test (map (rank_of kept) (cond b (p ∷ filter (is_kept kept) run) (filter (is_kept kept) run))) ≡ count_by (λ q. is_kept kept q && test (rank_of kept q)) (p ∷ run)) [
        | true ↦ λ k. grind (arith, k, count_kept test run, count_by-cons test (rank_of kept p) (map (rank_of kept) (filter (is_kept kept) run)), count_by-cons (λ q. is_kept kept q && test (rank_of kept q)) p run)
        | false ↦ λ k. grind (arith, k, count_kept test run, count_by-cons (λ q. is_kept kept q && test (rank_of kept q)) p run)
      ] refl

  abbrev pub new_run : List ℕ → List ℕ
  new_run run = map (rank_of kept) (filter (is_kept kept) run)

  -- how the counts go on from a run to the next
  kept_each : (at : ℕ → Value) (from : ℕ) (run : List ℕ) → IsRun at from run → (test : ℕ → Bool) → count_below test (rank_of kept from) + count_by test (new_run run) ≡ count_below test (rank_of kept (from + length run))
  kept_each at from run r test =
      omega (arith, r.each (λ p. is_kept kept p && test (rank_of kept p)), count_ranks test from, count_ranks test (from + length run), count_kept test run)

  pub kept_length : (at : ℕ → Value) (from : ℕ) (run : List ℕ) → IsRun at from run → rank_of kept from + length (new_run run) ≡ rank_of kept (from + length run)
  kept_length at from run r =
      omega (arith, kept_each at from run r (λ p. true), count_below-true (rank_of kept from), count_below-true (rank_of kept (from + length run)), count_by-true (new_run run))

  kept_less : (o : Ordering) (p q : ℕ) → is_kept kept p ≡ true → ordering_then o (nat_cmp p q) ≡ Less → ordering_then o (nat_cmp (rank_of kept p) (rank_of kept q)) ≡ Less
  kept_less Less p q k e = refl
  kept_less Equal p q k e =
      let less : p < q = grind (arith, nat_tests, e) in
      let up : rank_of kept p < rank_of kept q = rank_less p q k less in
      grind (arith, nat_tests, up)
  kept_less Greater p q k e = absurd (cc)

  module _ (at other : ℕ → Value) (same : (p : ℕ) → is_kept kept p ≡ true → other (rank_of kept p) ≡ at p) where
    kept_before : (p : ℕ) (run : List ℕ) → is_kept kept p ≡ true → Before (compare_places at) p run → Before (compare_places other) (rank_of kept p) (new_run run)
    kept_before p [] k b = tt
    kept_before p (q ∷ run) k b =
        elim (is_kept kept q) as (λ t. is_kept kept q ≡ t → Before (compare_places other) (rank_of kept p) (map (rank_of kept) (cond t (q ∷ filter (is_kept kept) run) (filter (is_kept kept) run)))) [
          | true ↦ λ j. (rw (same p k, same q j) (kept_less (compare_keys (at p) (at q)) p q k b.0), kept_before p run k b.1)
          | false ↦ λ j. kept_before p run k b.1
        ] refl

    kept_ordered : (run : List ℕ) → IsStrictlySortedBy (compare_places at) run → IsStrictlySortedBy (compare_places other) (new_run run)
    kept_ordered [] s = sorted_nil (compare_places other)
    kept_ordered (p ∷ run) s =
        elim (is_kept kept p) as (λ t. is_kept kept p ≡ t → IsStrictlySortedBy (compare_places other) (map (rank_of kept) (cond t (p ∷ filter (is_kept kept) run) (filter (is_kept kept) run)))) [
          | true ↦ λ k. sorted_cons (compare_places other) (rank_of kept p) (new_run run) (kept_before p run k (sorted_head (compare_places at) p run s)) (kept_ordered run (sorted_tail (compare_places at) p run s))
          | false ↦ λ k. kept_ordered run (sorted_tail (compare_places at) p run s)
        ] refl

    kept_is_run : (from : ℕ) (run : List ℕ) → IsRun at from run → IsRun other (rank_of kept from) (new_run run)
    kept_is_run from run r = record {
      each = λ test. rw (kept_length at from run r) (kept_each at from run r test);
      ordered = kept_ordered run r.ordered;
    }

    pub kept_index : (n : ℕ) (run : List ℕ) → IsIndex at n run → IsIndex other (rank_of kept n) (new_run run)
    kept_index n run i =
        let l : rank_of kept 0 + length (new_run run) ≡ rank_of kept (0 + length run) = kept_length at 0 run i.run in
        let z : rank_of kept 0 ≡ 0 = refl in
        let e : rank_of kept (0 + length run) ≡ rank_of kept n = ap (rank_of kept) (omega (arith, i.whole)) in
        record {
          run = kept_is_run 0 run i.run;
          whole = omega (arith, l, z, e);
          small = omega (arith, i.small, count_below-most (is_kept kept) n);
        }

-- ---- the rows

rank_shift : (b : Bool) (kept : List Bool) (p : ℕ) → rank_of (b ∷ kept) (suc p) ≡ cond b 1 0 + rank_of kept p
rank_shift b kept zero = elim b as (λ t. rank_of (t ∷ kept) 1 ≡ cond t 1 0 + 0) [ true ↦ refl | false ↦ refl ]
rank_shift b kept (suc p) = omega (arith, rank_shift b kept p)

pub kept_rows_length : {X : Type 0} (kept : List Bool) (rows : List X) → length kept ≡ length rows → length (items_where_true kept rows) ≡ rank_of kept (length rows)
kept_rows_length [] [] e = refl
kept_rows_length [] (x ∷ rows) e = absurd (omega arith)
kept_rows_length (b ∷ kept) [] e = absurd (omega arith)
kept_rows_length (true ∷ kept) (x ∷ rows) e = omega (arith, rank_shift true kept (length rows), kept_rows_length kept rows (omega arith))
kept_rows_length (false ∷ kept) (x ∷ rows) e = omega (arith, rank_shift false kept (length rows), kept_rows_length kept rows (omega arith))

pub kept_row : {X : Type 0} (kept : List Bool) (rows : List X) (p : ℕ) (d : X) → length kept ≡ length rows → is_kept kept p ≡ true → get_or (items_where_true kept rows) (rank_of kept p) d ≡ get_or rows p d
kept_row [] rows p d e k = absurd (cc)
kept_row (b ∷ kept) [] p d e k = absurd (omega arith)
kept_row (true ∷ kept) (x ∷ rows) zero d e k = refl
kept_row (false ∷ kept) (x ∷ rows) zero d e k = absurd (cc)
kept_row (true ∷ kept) (x ∷ rows) (suc p) d e k =
    let s : rank_of (true ∷ kept) (suc p) ≡ suc (rank_of kept p) = omega (arith, rank_shift true kept p) in
    ap (λ n. get_or (x ∷ items_where_true kept rows) n d) s ∙ kept_row kept rows p d (omega arith) k
kept_row (false ∷ kept) (x ∷ rows) (suc p) d e k =
    let s : rank_of (false ∷ kept) (suc p) ≡ rank_of kept p = omega (arith, rank_shift false kept p) in
    ap (λ n. get_or (items_where_true kept rows) n d) s ∙ kept_row kept rows p d (omega arith) k
