-- What is left of rows without others that ascend.
use Rattle.std.proofs.Common.{◌≡◌, ◌+◌, ◌<◌, ◌≤◌, ℕ, Bool, true, not, ⊎_elim, inl, inr, List, length, get_or, Contains, refl, sym, ap, ◌∙◌, subst, arith}
use Rattle.std.specs.Prelude.{Result, Ok, Err}
use Rattle.std.specs.Result.{is_ok}
use Rattle.std.specs.Ordering.{is_eq, is_lt, ordering_reverse}
use Rattle.std.specs.declared.cmp.Ordering.{Ordering}
use Rattle.std.specs.declared.cmp.Ordering.TheVariants.{Less, Equal, Greater}
use Rattle.std.specs.Cmp.Lexicographic.{slice_cmp}
use Rattle.std.specs.List.{Any}
use Rattle.std.specs.List.Sorted.{IsStrictlySortedBy, IsBinarySearchResult, IsSearchInRange, IsSorted}
use Rattle.std.proofs.lemmas.Bool.{cases_Bool, cases_lt, true≢false, false≢true}
use Rattle.std.proofs.lemmas.Cmp.{tied_itself}
use Rattle.std.proofs.lemmas.List.{get_or_default}
use Rattle.std.proofs.lemmas.List.Folds.{list_any_at, Any-from_list_any}
use Rattle.std.proofs.lemmas.List.Kept.{IsStrictlySortedBy-filter}
use Rattle.std.proofs.lemmas.List.Sorted.{searchable_from_sorted}
use Rattle.std.proofs.lemmas.Map.Keys.{Less-from_sorted}
use Rattle.su_base.specs.declared.values.Value.{Value}
use Rattle.su_base.specs.Value.{compare_lists}
use Rattle.su_base.specs.contracts.values.ValueOrd.TheImpl.{ghosts as cmp_ghosts}
use Rattle.su_base.proofs.Items.{Contains-filter, Contains-filter_source}
use Rattle.su_base.proofs.Rows.{cmp-rows, equal_rows, rows_total}
use Rattle.su_rel.specs.ExactRows.{AreExactlyRows}
use Rattle.su_dangling.specs.inside.Among.{is_one, without}

eq_is : (o : Ordering) → is_eq o ≡ true → o ≡ Equal
eq_is Less e = absurd (false≢true e)
eq_is Equal e = refl
eq_is Greater e = absurd (false≢true e)

abbrev same_as : List Value → List Value → Bool
same_as row other = is_eq (compare_lists other row)

one_of : (rows : List (List Value)) (row : List Value) → is_one rows row ≡ true → Contains rows row
one_of rows row e =
    let w : Any (λ other. same_as row other ≡ true) rows = Any-from_list_any (same_as row) rows e in
    let same : w.1 ≡ row = equal_rows w.1 row (eq_is (compare_lists w.1 row) w.4) in
    (w.0, w.2, get_or_default rows w.0 row w.1 w.2 ∙ w.3 ∙ same)

is_one_of : (rows : List (List Value)) (row : List Value) → Contains rows row → is_one rows row ≡ true
is_one_of rows row (k, within, is) = list_any_at (same_as row) rows k row within (ap (same_as row) is ∙ ap is_eq (tied_itself rows_total row))

-- ---- by a binary search

sorted_plainly : (rows : List (List Value)) → IsStrictlySortedBy compare_lists rows → IsSorted compare_lists rows
sorted_plainly rows h k d z l =
    let less = Less-from_sorted compare_lists rows k (k + 1) d h (omega arith) l in
    let more : compare_lists (get_or rows (k + 1) d) (get_or rows k d) ≡ Greater = rows_total.antisymm (get_or rows (k + 1) d) (get_or rows k d) ∙ ap ordering_reverse less in
    ap is_lt more

pub one_searched : (rows : List (List Value)) (row : List Value) (r : Result ℕ ℕ) → IsStrictlySortedBy compare_lists rows → IsSearchInRange r (length rows) → IsBinarySearchResult (λ y. slice_cmp cmp_ghosts.cmp y row) rows r → is_ok r ≡ is_one rows row
one_searched rows row (Ok i) sorted range found = sym (is_one_of rows row (i, range, equal_rows (get_or rows i row) row (sym (cmp-rows (get_or rows i row) row) ∙ found row)))
one_searched rows row (Err i) sorted range found =
    let plain : IsBinarySearchResult (λ y. compare_lists y row) rows (Err i) = subst (λ (o : List Value → Ordering). IsBinarySearchResult o rows (Err i)) (λ j y. cmp-rows y row j) found in
    let parted = plain (searchable_from_sorted rows_total (λ x. x) rows row (sorted_plainly rows sorted)) in
    elim (cases_Bool (is_one rows row)) [
      | inl t ↦
          let w = one_of rows row t in
          let same : compare_lists (get_or rows w.0 row) row ≡ Equal = ap (λ (x : List Value). compare_lists x row) w.2 ∙ tied_itself rows_total row in
          ⊎_elim
          (λ (lt : w.0 < i). let less : compare_lists (get_or rows w.0 row) row ≡ Less = parted.0 w.0 row (omega arith) lt in let o : Equal ≡ Less = sym same ∙ less in absurd (cc))
          (λ (ge : i ≤ w.0). let more : compare_lists (get_or rows w.0 row) row ≡ Greater = parted.1 w.0 row ge w.1 in let o : Equal ≡ Greater = sym same ∙ more in absurd (cc))
          (cases_lt w.0 i)
      | inr f ↦ sym f
    ]

-- ---- rows with a property and not another

module _ (P Q : List Value → Type 0) (rows others : List (List Value)) (are : AreExactlyRows P rows) (those : AreExactlyRows Q others) where
  abbrev test : List Value → Bool
  test row = not (is_one others row)

  left_from : (h : List Value) → Contains (without rows others) h → P h × ¬ Q h
  left_from h c =
      let w = Contains-filter_source test rows h c in
      ((are.exact h).0 w.0, λ q. let t = is_one_of others h ((those.exact h).1 q) in true≢false (sym w.1 ∙ ap not t))

  left_to : (h : List Value) → P h × ¬ Q h → Contains (without rows others) h
  left_to h both =
      Contains-filter test rows h ((are.exact h).1 both.0)
      (elim (cases_Bool (is_one others h)) [
        | inl t ↦ absurd (both.1 ((those.exact h).0 (one_of others h t)))
        | inr f ↦ ap not f
      ])

  pub left_are : AreExactlyRows (λ h. P h × ¬ Q h) (without rows others)
  left_are = record { exact = λ h. (left_from h, left_to h); ascending = IsStrictlySortedBy-filter compare_lists test rows are.ascending }
