-- Binary search in a list of positions in order.
use Rattle.std.proofs.Common.{◌≡◌, ◌<◌, ◌≤◌, ℕ, true, false, List, length, get_or, ap, refl, sym, ◌∙◌, arith, inl, inr}
use Rattle.std.specs.Cmp.{IsTotalOrder, then_total, on_total, nat_cmp_total}
use Rattle.std.specs.List.Sorted.{IsStrictlySortedBy}
use Rattle.std.specs.Ordering.{nat_cmp, ordering_then, ordering_reverse, is_lt, is_eq}
use Rattle.std.specs.declared.cmp.Ordering.{Ordering}
use Rattle.std.specs.declared.cmp.Ordering.TheVariants.{Less, Equal, Greater}
use Rattle.std.proofs.lemmas.Bool.{false≢true, cases_eq}
use Rattle.std.proofs.lemmas.Map.Keys.{Less-from_sorted}
use Rattle.su_base.specs.declared.values.Value.{Value}
use Rattle.su_base.proofs.Numbers.{is_lt-Less, is_eq-Equal}
use Rattle.su_index.specs.inside.Order.{compare_keys, compare_places, compare_entries}
use Rattle.su_index.specs.inside.Spans.{comes_before, has_at}
use Rattle.su_index.proofs.Runs.{keys_total}

pub entries_total : IsTotalOrder (λ (a b : Value × ℕ). compare_entries a.0 a.1 b.0 b.1)
entries_total = then_total (on_total (λ (a : Value × ℕ). a.0) keys_total) (on_total (λ (a : Value × ℕ). a.1) nat_cmp_total)

-- what is before a position that comes before comes before too
pub comes_before-below : (at : ℕ → Value) (v : Value) (p : ℕ) (run : List ℕ) (j k : ℕ) → IsStrictlySortedBy (compare_places at) run → j ≤ k → k < length run → comes_before at v p (get_or run k 0) ≡ true → comes_before at v p (get_or run j 0) ≡ true
comes_before-below at v p run j k sorted le within before =
    elim (cases_eq j k) [
      | inl e ↦ rw e before
      | inr apart ↦
          let less : compare_places at (get_or run j 0) (get_or run k 0) ≡ Less = Less-from_sorted (compare_places at) run j k 0 sorted (omega (arith, apart)) within in
          ap is_lt (entries_total.trans (at (get_or run j 0), get_or run j 0) (at (get_or run k 0), get_or run k 0) (v, p) less (is_lt-Less _ before))
    ]

-- what is after one that does not come before does not come before either
pub comes_before-above : (at : ℕ → Value) (v : Value) (p : ℕ) (run : List ℕ) (j k : ℕ) → IsStrictlySortedBy (compare_places at) run → j ≤ k → k < length run → comes_before at v p (get_or run j 0) ≡ false → comes_before at v p (get_or run k 0) ≡ false
comes_before-above at v p run j k sorted le within after =
    elim (comes_before at v p (get_or run k 0)) as (λ b. comes_before at v p (get_or run k 0) ≡ b → comes_before at v p (get_or run k 0) ≡ false) [
      | true ↦ λ one. absurd (false≢true (sym after ∙ comes_before-below at v p run j k sorted le within one))
      | false ↦ λ none. none
    ] refl

-- what is neither before nor after the value has it
between_has : (o p q : Ordering) → ordering_then (ordering_reverse o) p ≡ Less → ordering_then o q ≡ Less → is_eq o ≡ true
between_has Less p q e f = absurd (cc)
between_has Equal p q e f = refl
between_has Greater p q e f = absurd (cc)

-- between two positions with the value each one has it
pub has_between : (at : ℕ → Value) (v : Value) (run : List ℕ) (i j k : ℕ) → IsStrictlySortedBy (compare_places at) run → i < j → j < k → k < length run → has_at at v (get_or run i 0) ≡ true → has_at at v (get_or run k 0) ≡ true → has_at at v (get_or run j 0) ≡ true
has_between at v run i j k sorted low high within a b =
    let x : Value = at (get_or run i 0) in
    let y : Value = at (get_or run j 0) in
    let z : Value = at (get_or run k 0) in
    let before : compare_keys x y ≡ ordering_reverse (compare_keys y v) = keys_total.congr x v y (is_eq-Equal (compare_keys x v) a) ∙ keys_total.antisymm v y in
    let after : compare_keys y z ≡ compare_keys y v = keys_total.antisymm y z ∙ ap ordering_reverse (keys_total.congr z v y (is_eq-Equal (compare_keys z v) b)) ∙ sym (keys_total.antisymm y v) in
    between_has (compare_keys y v) (nat_cmp (get_or run i 0) (get_or run j 0)) (nat_cmp (get_or run j 0) (get_or run k 0))
    (rw (← before) (Less-from_sorted (compare_places at) run i j 0 sorted low (omega arith)))
    (rw (← after) (Less-from_sorted (compare_places at) run j k 0 sorted high within))
