-- The greatest row of two lists that ascend is the last of one of them.
use Rattle.std.proofs.Common.{◌≡◌, inl, inr, ⊎_elim, ◌-◌, ◌<◌, ◌≤◌, List, [], ◌∷◌, ◌++◌, length, get_or, Contains, Option, Some, None, slice_get, refl, sym, ap, ◌∙◌, subst, arith}
use Rattle.std.specs.Prelude.{MatchOption}
use Rattle.std.specs.List.Sorted.{IsStrictlySortedBy}
use Rattle.std.specs.Ordering.{ordering_reverse}
use Rattle.std.specs.declared.cmp.Ordering.{Ordering}
use Rattle.std.specs.declared.cmp.Ordering.TheVariants.{Less, Equal, Greater}
use Rattle.std.proofs.lemmas.Bool.{cases_lt}
use Rattle.std.proofs.lemmas.List.{get_or_default, length-append}
use Rattle.std.proofs.lemmas.Map.Keys.{Less-from_sorted}
use Rattle.std.proofs.lemmas.Option.{slice_get-get_or}
use Rattle.su_base.specs.declared.values.Value.{Value}
use Rattle.su_base.specs.Value.{compare_lists}
use Rattle.su_base.proofs.Rows.{rows_total, equal_rows}
use Rattle.su_answer.specs.inside.Merged.{compare_rows, compare_last, IsGreatestOf}

at_end : (xs : List (List Value)) (x : List Value) → slice_get (xs ++ x ∷ []) (length xs) ≡ Some x
at_end [] x = refl
at_end (y ∷ xs) x = at_end xs x

last_is : (xs : List (List Value)) (x : List Value) → slice_get (xs ++ x ∷ []) (length (xs ++ x ∷ []) - 1) ≡ Some x
last_is xs x =
    let l = length-append xs (x ∷ []) in
    let e : length xs ≡ length (xs ++ x ∷ []) - 1 = omega (arith, l) in
    subst (λ n. slice_get (xs ++ x ∷ []) n ≡ Some x) e (at_end xs x)

last_of : (xs : List (List Value)) (front : List (List Value)) (x : List Value) → xs ≡ front ++ x ∷ [] → slice_get xs (length xs - 1) ≡ Some x
last_of xs front x e = subst (λ (ys : List (List Value)). slice_get ys (length ys - 1) ≡ Some x) (sym e) (last_is front x)

-- each row of a list that ends before a row is before it
all_before : (xs : List (List Value)) (row : List Value) → IsStrictlySortedBy compare_lists xs → compare_rows (slice_get xs (length xs - 1)) (Some row) ≡ Less → (r : List Value) → Contains xs r → compare_lists r row ≡ Less
all_before xs row sorted less r c =
    let low = c.1 in
    let within : length xs - 1 < length xs = omega (arith, low) in
    let last : List Value = get_or xs (length xs - 1) [] in
    let before : compare_lists last row ≡ Less = subst (λ (o : Option (List Value)). compare_rows o (Some row) ≡ Less) (slice_get-get_or xs (length xs - 1) [] within) less in
    let is : get_or xs c.0 [] ≡ r = get_or_default xs c.0 [] r low ∙ c.2 in
    ⊎_elim
    (λ (l : c.0 < length xs - 1).
    let up : compare_lists r last ≡ Less = subst (λ (x : List Value). compare_lists x last ≡ Less) is (Less-from_sorted compare_lists xs c.0 (length xs - 1) [] sorted l within) in
    rows_total.trans r last row up before)
    (λ (g : length xs - 1 ≤ c.0).
    let same : c.0 ≡ length xs - 1 = omega (arith, g, low) in
    let one : last ≡ r = ap (λ n. get_or xs n []) (sym same) ∙ is in
    subst (λ (x : List Value). compare_lists x row ≡ Less) one before)
    (cases_lt c.0 (length xs - 1))

flipped : (a b : Option (List Value)) → compare_rows a b ≡ Greater → compare_rows b a ≡ Less
flipped None None e = absurd (cc)
flipped None (Some b) e = absurd (cc)
flipped (Some a) None e = refl
flipped (Some a) (Some b) e = rows_total.antisymm b a ∙ ap ordering_reverse e

none_behind : (a : Option (List Value)) → compare_rows a None ≡ Less → ⊥
none_behind None e = cc
none_behind (Some a) e = cc

module _ (one other after : List (List Value)) where
  -- the last row of the other list is behind that of the one
  pub of_other : (row : Option (List Value)) → IsStrictlySortedBy compare_lists one → compare_last one other ≡ Less → MatchOption row ((other ≡ []) × (after ≡ [])) (λ r. other ≡ after ++ r ∷ [])
      → MatchOption row ((one ≡ []) × (other ≡ [])) (IsGreatestOf one other one after)
  of_other None sorted less p =
      absurd (none_behind (slice_get one (length one - 1)) (subst (λ (xs : List (List Value)). compare_rows (slice_get one (length one - 1)) (slice_get xs (length xs - 1)) ≡ Less) p.0 less))
  of_other (Some r) sorted less p =
      record {
        taken = inr p;
        of_one = inr (refl, all_before one r sorted (subst (λ (o : Option (List Value)). compare_rows (slice_get one (length one - 1)) o ≡ Less) (last_of other after r p) less));
        of_other = inl p;
      }

  -- the other way round
  pub of_one : (row : Option (List Value)) → IsStrictlySortedBy compare_lists other → compare_last one other ≡ Greater → MatchOption row ((one ≡ []) × (after ≡ [])) (λ r. one ≡ after ++ r ∷ [])
      → MatchOption row ((one ≡ []) × (other ≡ [])) (IsGreatestOf one other after other)
  of_one None sorted greater p =
      absurd (none_behind (slice_get other (length other - 1)) (subst (λ (xs : List (List Value)). compare_rows (slice_get other (length other - 1)) (slice_get xs (length xs - 1)) ≡ Less) p.0 (flipped (slice_get one (length one - 1)) (slice_get other (length other - 1)) greater)))
  of_one (Some r) sorted greater p =
      let less : compare_last other one ≡ Less = flipped (slice_get one (length one - 1)) (slice_get other (length other - 1)) greater in
      record {
        taken = inl p;
        of_one = inl p;
        of_other = inr (refl, all_before other r sorted (subst (λ (o : Option (List Value)). compare_rows (slice_get other (length other - 1)) o ≡ Less) (last_of one after r p) less));
      }

-- both lists end in one row, or are empty
pub of_both : (one other one_after other_after : List (List Value)) (row gone : Option (List Value)) → compare_last one other ≡ Equal → MatchOption row ((one ≡ []) × (one_after ≡ [])) (λ r. one ≡ one_after ++ r ∷ []) → MatchOption gone ((other ≡ []) × (other_after ≡ [])) (λ r. other ≡ other_after ++ r ∷ [])
    → MatchOption row ((one ≡ []) × (other ≡ [])) (IsGreatestOf one other one_after other_after)
of_both one other one_after other_after None None tied p q = (p.0, q.0)
of_both one other one_after other_after None (Some b) tied p q =
    let e : compare_rows None (Some b) ≡ Equal = subst (λ (xs : List (List Value)). compare_rows (slice_get xs (length xs - 1)) (Some b) ≡ Equal) p.0 (subst (λ (o : Option (List Value)). compare_rows (slice_get one (length one - 1)) o ≡ Equal) (last_of other other_after b q) tied) in
    cc
of_both one other one_after other_after (Some a) None tied p q =
    let e : compare_rows (Some a) None ≡ Equal = subst (λ (xs : List (List Value)). compare_rows (Some a) (slice_get xs (length xs - 1)) ≡ Equal) q.0 (subst (λ (o : Option (List Value)). compare_rows o (slice_get other (length other - 1)) ≡ Equal) (last_of one one_after a p) tied) in
    cc
of_both one other one_after other_after (Some a) (Some b) tied p q =
    let e : compare_lists a b ≡ Equal = subst (λ (o : Option (List Value)). compare_rows o (Some b) ≡ Equal) (last_of one one_after a p) (subst (λ (o : Option (List Value)). compare_rows (slice_get one (length one - 1)) o ≡ Equal) (last_of other other_after b q) tied) in
    let r : other ≡ other_after ++ a ∷ [] = subst (λ (x : List Value). other ≡ other_after ++ x ∷ []) (sym (equal_rows a b e)) q in
    record { taken = inl p; of_one = inl p; of_other = inl r }

-- the order of two lists that are seen as slices
pub order_of : (one other left right : List (List Value)) (order is : Ordering) → order ≡ compare_last left right → left ≡ one → right ≡ other → order ≡ is → compare_last one other ≡ is
order_of one other left right order is o l r e =
    sym (subst (λ (xs : List (List Value)). order ≡ compare_last xs other) l (subst (λ (xs : List (List Value)). order ≡ compare_last left xs) r o)) ∙ e
