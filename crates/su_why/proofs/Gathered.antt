-- Items of a list that have a property at their places, gathered one place after another.
use Rattle.std.proofs.Common.{◌≡◌, ◌↔◌, ◌+◌, ◌<◌, ◌≤◌, ℕ, List, [], ◌∷◌, ◌++◌, length, Contains, Some, sym, ap, subst, ◌∙◌, ⊎_elim, arith}
use Rattle.std.specs.Prelude.{slice_get}
use Rattle.std.proofs.lemmas.Bool.{cases_lt}
use Rattle.std.proofs.lemmas.List.{length-append}
use Rattle.std.proofs.lemmas.List.Elements.{Contains-append_left, Contains-push, Contains-push_cases}
use Rattle.std.proofs.lemmas.Option.{same_Some, slice_get_within}
use Rattle.su_base.proofs.Items.{Contains-nil}

-- x stands at a place where it has the property
pub record IsAt {X : Type 0} (Holds : ℕ → X → Type 0) (xs : List X) (x : X) : Type 0 where
  pub place : ℕ
  pub is : slice_get xs place ≡ Some x
  pub holds : Holds place x

-- those of the first n places
pub record AreGathered {X : Type 0} (Holds : ℕ → X → Type 0) (xs : List X) (n : ℕ) (found : List X) : Type 0 where
  pub from : (x : X) → Contains found x → (at : IsAt Holds xs x) × (at.place < n)
  pub all : (x : X) (at : IsAt Holds xs x) → at.place < n → Contains found x
  pub few : length found ≤ n

module _ {X : Type 0} (Holds : ℕ → X → Type 0) (xs : List X) where
  pub gathered_none : (found : List X) → found ≡ [] → AreGathered Holds xs 0 found
  gathered_none found e = subst (AreGathered Holds xs 0) (sym e) (record {
    from = λ x c. absurd (Contains-nil x c);
    all = λ x at low. absurd (omega (arith, low));
    few = omega arith;
  })

  pub gathered_in : (n : ℕ) (found next : List X) (x : X) → AreGathered Holds xs n found → slice_get xs n ≡ Some x → Holds n x → next ≡ found ++ x ∷ [] → AreGathered Holds xs (n + 1) next
  gathered_in n found next x before is holds e = subst (AreGathered Holds xs (n + 1)) (sym e) (record {
    from = λ y c. ⊎_elim
        (λ (old : Contains found y). let w = before.from y old in (w.0, let l = w.1 in omega (arith, l)))
        (λ (new : x ≡ y). subst (λ (z : X). (at : IsAt Holds xs z) × (at.place < n + 1)) new (record { place = n; is = is; holds = holds }, omega arith))
        (Contains-push_cases found x y c);
    all = λ y at low. ⊎_elim
        (λ (lt : at.place < n). Contains-append_left found (x ∷ []) y (before.all y at lt))
        (λ (le : n ≤ at.place).
        let here : at.place ≡ n = omega (arith, low) in
        let same : x ≡ y = same_Some x y (sym is ∙ ap (slice_get xs) (sym here) ∙ at.is) in
        subst (Contains (found ++ x ∷ [])) same (Contains-push found x))
        (cases_lt at.place n);
    few = (let l = before.few in let long = length-append found (x ∷ []) in omega (arith, l, long));
  })

  pub gathered_out : (n : ℕ) (found next : List X) → AreGathered Holds xs n found → ((x : X) → slice_get xs n ≡ Some x → Holds n x → ⊥) → next ≡ found → AreGathered Holds xs (n + 1) next
  gathered_out n found next before out e = subst (AreGathered Holds xs (n + 1)) (sym e) (record {
    from = λ y c. let w = before.from y c in (w.0, let l = w.1 in omega (arith, l));
    all = λ y at low. ⊎_elim
        (λ (lt : at.place < n). before.all y at lt)
        (λ (le : n ≤ at.place).
        let here : at.place ≡ n = omega (arith, low) in
        absurd (out y (ap (slice_get xs) (sym here) ∙ at.is) (subst (λ (k : ℕ). Holds k y) here at.holds)))
        (cases_lt at.place n);
    few = (let l = before.few in omega (arith, l));
  })

  pub gathered_all : (n : ℕ) (found : List X) → length xs ≤ n → AreGathered Holds xs n found → (x : X) → Contains found x ↔ IsAt Holds xs x
  gathered_all n found end are x = (
    λ c. (are.from x c).0,
    λ at. are.all x at (let l = slice_get_within xs at.place x at.is in omega (arith, l)),
  )
