-- The order of values and of rows: a total order, one with `cmp` and `==`, and what a sort without repeats leaves.
use Rattle.std.proofs.Common.{◌≡◌, ◌≢◌, ◌⊎◌, inl, inr, ◌↔◌, Bool, true, List, [], ◌∷◌, refl, sym, ap, ◌∙◌, subst}
use Rattle.std.specs.Cmp.{IsEquivalence, IsTotalOrder}
use Rattle.std.specs.Cmp.Lexicographic.{slice_cmp, pointwise, lists_ties}
use Rattle.std.specs.List.{Contains, dedup}
use Rattle.std.specs.List.Sorted.{IsPermutation, IsSorted, IsStrictlySortedBy}
use Rattle.std.specs.Ordering.{eq_by_cmp, is_eq, ordering_then, ordering_reverse}
use Rattle.std.specs.declared.cmp.Ordering.{Ordering}
use Rattle.std.specs.declared.cmp.Ordering.TheVariants.{Less, Equal, Greater}
use Rattle.std.proofs.lemmas.Cmp.{eq_by_cmp_equiv, lists_total, tied_itself}
use Rattle.std.proofs.lemmas.List.Kept.{Contains-dedup, Contains-from_dedup, IsStrictlySortedBy-dedup}
use Rattle.std.proofs.lemmas.List.Sorted.{Contains-permutation, IsPermutation-sym}
use Rattle.su_base.specs.declared.values.Value.{Value}
use Rattle.su_base.specs.declared.values.Value.TheVariants.{Int, Text}
use Rattle.su_base.specs.contracts.values.ValuePartialEq.TheImpl.{ghosts}
use Rattle.su_base.specs.contracts.values.ValueOrd.TheImpl.{ghosts as cmp_ghosts}
use Rattle.su_base.specs.contracts.values.ValueOrd.TheImpl.Laws.{matches_eq-law, total-law}
use Rattle.su_base.specs.Value.{compare_values, compare_lists}
use Rattle.su_base.proofs.Same.{value_eq-Decides, row_eq-Decides}

-- ---- values

-- the order of values is that of their derived `cmp`
pub cmp-values : (v w : Value) → cmp_ghosts.cmp v w ≡ compare_values v w
cmp-values (Int m) (Int n) = search
cmp-values (Int m) (Text t) = search
cmp-values (Text s) (Int n) = search
cmp-values (Text s) (Text t) = search

pub values_total : IsTotalOrder compare_values
values_total = record {
  antisymm = λ v w. rw (← cmp-values v w, ← cmp-values w v) (total-law.antisymm v w);
  trans = λ v w x p q. sym (cmp-values v x) ∙ total-law.trans v w x (cmp-values v w ∙ p) (cmp-values w x ∙ q);
  congr = λ v w x p. rw (← cmp-values v x, ← cmp-values w x) (total-law.congr v w x (cmp-values v w ∙ p));
}

pub eq-values : (v w : Value) → ghosts.eq v w ≡ eq_by_cmp compare_values v w
eq-values v w = matches_eq-law v w ∙ ap is_eq (cmp-values v w)

pub values_equiv : IsEquivalence ghosts.eq
values_equiv = subst (λ (E : Value → Value → Bool). IsEquivalence E) (λ i a b. sym (eq-values a b) i) (eq_by_cmp_equiv values_total)

-- values that compare as equal are equal
pub equal_values : (v w : Value) → compare_values v w ≡ Equal → v ≡ w
equal_values v w e = (value_eq-Decides v w).0 (eq-values v w ∙ ap is_eq e)

-- two values are equal or not
pub equal_or_not : (v w : Value) → (v ≡ w) ⊎ (v ≢ w)
equal_or_not v w =
    elim (compare_values v w) as (λ o. compare_values v w ≡ o → (v ≡ w) ⊎ (v ≢ w)) [
      | Less ↦ λ e. inr (λ s.
          let tied : compare_values v v ≡ Equal = tied_itself values_total v in
          let less : compare_values v v ≡ Less = ap (compare_values v) s ∙ e in
          cc)
      | Equal ↦ λ e. inl (equal_values v w e)
      | Greater ↦ λ e. inr (λ s.
          let tied : compare_values v v ≡ Equal = tied_itself values_total v in
          let greater : compare_values v v ≡ Greater = ap (compare_values v) s ∙ e in
          cc)
    ] refl

-- two values neither of which is after the other are one
pub at_most_both : (v w : Value) → compare_values v w ≢ Greater → compare_values w v ≢ Greater → v ≡ w
at_most_both v w a b =
    elim (compare_values v w) as (λ o. compare_values v w ≡ o → v ≡ w) [
      | Less ↦ λ e. absurd (b (values_total.antisymm w v ∙ ap ordering_reverse e))
      | Equal ↦ λ e. equal_values v w e
      | Greater ↦ λ e. absurd (a e)
    ] refl

pub IsSorted-values : (values : List Value) → IsSorted cmp_ghosts.cmp values → IsSorted compare_values values
IsSorted-values values sorted = subst (λ (cmp : Value → Value → Ordering). IsSorted cmp values) (λ i x y. cmp-values x y i) sorted

-- ---- rows

-- rows are compared as their values are
pub cmp-rows : (xs ys : List Value) → slice_cmp cmp_ghosts.cmp xs ys ≡ compare_lists xs ys
cmp-rows [] [] = refl
cmp-rows [] (y ∷ ys) = refl
cmp-rows (x ∷ xs) [] = refl
cmp-rows (x ∷ xs) (y ∷ ys) = λ i. ordering_then (cmp-values x y i) (cmp-rows xs ys i)

pub rows_total : IsTotalOrder compare_lists
rows_total = lists_total values_total

pub eq-rows : (a b : List Value) → pointwise ghosts.eq a b ≡ eq_by_cmp compare_lists a b
eq-rows = lists_ties compare_values eq-values

pub rows_equiv : IsEquivalence (pointwise ghosts.eq)
rows_equiv = subst (λ (E : List Value → List Value → Bool). IsEquivalence E) (λ i a b. sym (eq-rows a b) i) (eq_by_cmp_equiv rows_total)

-- rows that compare as equal are equal
pub equal_rows : (a b : List Value) → compare_lists a b ≡ Equal → a ≡ b
equal_rows a b e = (row_eq-Decides a b true (sym (eq-rows a b ∙ ap is_eq e))).0 refl

pub IsSorted-rows : (rows : List (List Value)) → IsSorted (slice_cmp cmp_ghosts.cmp) rows → IsSorted compare_lists rows
IsSorted-rows rows sorted = subst (λ (cmp : List Value → List Value → Ordering). IsSorted cmp rows) (λ i x y. cmp-rows x y i) sorted

-- ---- what a sort and a `dedup` leave

module _ (values sorted kept : List Value) (moved : IsPermutation values sorted) (is : kept ≡ dedup ghosts.eq sorted) where
  pub dedup-values : IsSorted cmp_ghosts.cmp sorted → IsStrictlySortedBy compare_values kept
  dedup-values ascending = subst (λ (xs : List Value). IsStrictlySortedBy compare_values xs) (sym is) (IsStrictlySortedBy-dedup values_total eq-values sorted (IsSorted-values sorted ascending))

  pub Contains-dedup_values : (v : Value) → Contains kept v ↔ Contains values v
  Contains-dedup_values v = (
    λ h. Contains-permutation sorted values v (IsPermutation-sym values sorted moved) (Contains-from_dedup ghosts.eq sorted v (subst (λ (xs : List Value). Contains xs v) is h)),
    λ h. subst (λ (xs : List Value). Contains xs v) (sym is) (Contains-dedup values_equiv (λ a b e. (value_eq-Decides a b).0 e) sorted v (Contains-permutation values sorted v moved h)),
  )

module _ (rows sorted kept : List (List Value)) (moved : IsPermutation rows sorted) (is : kept ≡ dedup (pointwise ghosts.eq) sorted) where
  pub dedup-rows : IsSorted (slice_cmp cmp_ghosts.cmp) sorted → IsStrictlySortedBy compare_lists kept
  dedup-rows ascending = subst (λ (xs : List (List Value)). IsStrictlySortedBy compare_lists xs) (sym is) (IsStrictlySortedBy-dedup rows_total eq-rows sorted (IsSorted-rows sorted ascending))

  pub Contains-dedup_rows : (row : List Value) → Contains kept row ↔ Contains rows row
  Contains-dedup_rows row = (
    λ h. Contains-permutation sorted rows row (IsPermutation-sym rows sorted moved) (Contains-from_dedup (pointwise ghosts.eq) sorted row (subst (λ (xs : List (List Value)). Contains xs row) is h)),
    λ h. subst (λ (xs : List (List Value)). Contains xs row) (sym is) (Contains-dedup rows_equiv (λ a b e. (row_eq-Decides a b true (sym e)).0 refl) sorted row (Contains-permutation rows sorted row moved h)),
  )
