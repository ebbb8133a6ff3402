-- Binary searches in values and in numbers, and a value by its variable.
use Rattle.std.proofs.Common.{◌≡◌, ◌≢◌, ◌↔◌, ℕ, zero, suc, ◌<◌, ◌≤◌, ⊎_elim, List, [], ◌∷◌, length, get_or, pos, Contains, refl, sym, ap, ◌∙◌, arith}
use Rattle.std.specs.Prelude.{IsTrue, Result, Ok, Err}
use Rattle.std.specs.Ordering.{nat_cmp}
use Rattle.std.specs.List.Sorted.{IsStrictlySortedBy, IsBinarySearchResult, IsSearchInRange}
use Rattle.std.specs.Result.{MatchResult, is_ok}
use Rattle.std.proofs.lemmas.Bool.{cond-true, cond-false, eq-eqb, ne_eqb, true≢false, cases_lt}
use Rattle.std.proofs.lemmas.List.Sorted.{searched}
use Rattle.std.proofs.lemmas.Map.Keys.{below_from_sorted}
use Rattle.su_base.specs.declared.values.Value.{Value}
use Rattle.su_base.specs.declared.values.Value.TheVariants.{Int}
use Rattle.su_base.specs.Value.{compare_values}
use Rattle.su_base.specs.contracts.values.ValueOrd.TheImpl.{ghosts as cmp_ghosts}
use Rattle.su_base.proofs.Rows.{cmp-values, equal_values}
use Rattle.su_tableau.specs.Valuations.{nth}
use Rattle.su_classes.proofs.Places.{place_is}
use Rattle.su_chase.specs.inside.Rows.{value_in}
use Rattle.su_chase.proofs.FirstClash.{place_searched, has_member}

pub among_searched : (vs : List Value) (c : Value) (r : Result ℕ ℕ) → IsStrictlySortedBy compare_values vs → IsSearchInRange r (length vs) → IsBinarySearchResult (λ y. cmp_ghosts.cmp y c) vs r → IsTrue (is_ok r) ↔ Contains vs c
among_searched vs c (Ok i) sorted range found = (
  λ _. (i, range, equal_values (get_or vs i c) c (sym (cmp-values (get_or vs i c) c) ∙ found c)),
  λ _. refl,
)
among_searched vs c (Err i) sorted range found = (
  λ h. absurd (true≢false (sym h)),
  λ h. let e = place_searched vs c (Err i) sorted range found in let w = place_is vs c (has_member vs c h) in let l = w.0 in absurd (omega arith),
)

-- ---- the value of a variable

pub value_at_place : (ks : List ℕ) (vs : List Value) (p : ℕ) → p < length ks → length vs ≡ length ks → ((q : ℕ) → q < p → get_or ks q 0 < get_or ks p 0) → value_in ks vs (get_or ks p 0) ≡ nth vs p
value_at_place [] vs p l each h = absurd (omega arith)
value_at_place (j ∷ js) [] p l each h = absurd (omega arith)
value_at_place (j ∷ js) (v ∷ vs) zero l each h = cond-true _ v (value_in js vs j) (eq-eqb j j refl)
value_at_place (j ∷ js) (v ∷ vs) (suc p) l each h =
    let k : ℕ = get_or js p 0 in
    let less : j < k = h 0 (omega arith) in
    cond-false _ v (value_in js vs k) (ne_eqb j k (λ e. absurd (omega arith))) ∙ value_at_place js vs p (omega arith) (omega arith) (λ q lq. h (suc q) (omega arith))

pub value_of_none : (ks : List ℕ) (vs : List Value) (k : ℕ) → ((p : ℕ) → p < length ks → get_or ks p 0 ≢ k) → value_in ks vs k ≡ Int (pos 0)
value_of_none [] vs k h = refl
value_of_none (j ∷ js) [] k h = refl
value_of_none (j ∷ js) (v ∷ vs) k h =
    cond-false _ v (value_in js vs k) (ne_eqb j k (h 0 (omega arith))) ∙ value_of_none js vs k (λ p l. h (suc p) (omega arith))

module _ (ks : List ℕ) (vs : List Value) (sorted : IsStrictlySortedBy nat_cmp ks) (each : length vs ≡ length ks) where
  pub at_place : (p : ℕ) → p < length ks → value_in ks vs (get_or ks p 0) ≡ nth vs p
  at_place p l = value_at_place ks vs p l each (λ q lq. below_from_sorted ks q p 0 sorted lq l)

  pub no_less : (i j : ℕ) → i ≤ j → j < length ks → get_or ks i 0 ≤ get_or ks j 0
  no_less i j le l =
      ⊎_elim
      (λ (lt : i < j). let b = below_from_sorted ks i j 0 sorted lt l in omega arith)
      (λ (ge : j ≤ i). let e : i ≡ j = omega arith in let same : get_or ks i 0 ≡ get_or ks j 0 = ap (λ n. get_or ks n 0) e in omega arith)
      (cases_lt i j)

  pub value_searched : (k : ℕ) (r : Result ℕ ℕ) → IsBinarySearchResult (λ y. nat_cmp y k) ks r → MatchResult r (λ i. nth vs i ≡ value_in ks vs k) (λ _. Int (pos 0) ≡ value_in ks vs k)
  value_searched k (Ok i) found =
      let w = searched ks k (Ok i) found no_less in
      sym (at_place i w.0) ∙ ap (value_in ks vs) w.1
  value_searched k (Err i) found =
      let w = searched ks k (Err i) found no_less in
      sym (value_of_none ks vs k (λ p l e.
      ⊎_elim
      (λ (lt : p < i). let b = w.1 p lt in absurd (omega arith))
      (λ (ge : i ≤ p). let b = w.2 p ge l in absurd (omega arith))
      (cases_lt p i)))
