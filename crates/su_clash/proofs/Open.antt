-- Steps that aren't kept yet: with each one that is taken there are fewer.
use Rattle.std.proofs.Common.{◌≡◌, ℕ, ◌<◌, ◌≤◌, Bool, true, false, cond, List, [], ◌∷◌, map, length, filter, Contains, sym, ap, ◌∙◌, subst, arith, inl, inr, ⊎_elim}
use Rattle.std.specs.List.{flat_map, range_with_len}
use Rattle.std.proofs.lemmas.Bool.{cases_Bool}
use Rattle.su_base.proofs.Items.{Contains-cases, Contains-flat_map, Contains-map, Contains-nil, Contains-range}
use Rattle.su_clash.specs.declared.steps.Step.{Step}

module _ {X : Type 0} (p q : X → Bool) (weaker : (x : X) → q x ≡ true → p x ≡ true) where
  no_more : (xs : List X) → length (filter q xs) ≤ length (filter p xs)
  no_more [] = omega arith
  no_more (x ∷ xs) =
      let rest = no_more xs in
      elim (cases_Bool (q x)) [
        | inl t ↦ subst (λ b. length (cond b (x ∷ filter q xs) (filter q xs)) ≤ length (cond (p x) (x ∷ filter p xs) (filter p xs))) (sym t)
            (subst (λ b. length (x ∷ filter q xs) ≤ length (cond b (x ∷ filter p xs) (filter p xs))) (sym (weaker x t)) (omega (arith, rest)))
        | inr f ↦ subst (λ b. length (cond b (x ∷ filter q xs) (filter q xs)) ≤ length (cond (p x) (x ∷ filter p xs) (filter p xs))) (sym f)
            (elim (p x) as (λ b. length (filter q xs) ≤ length (cond b (x ∷ filter p xs) (filter p xs))) [ true ↦ omega (arith, rest) | false ↦ rest ])
      ]

  pub fewer_pass : (xs : List X) (x : X) → Contains xs x → p x ≡ true → q x ≡ false → length (filter q xs) < length (filter p xs)
  fewer_pass [] x c in' out = absurd (Contains-nil x c)
  fewer_pass (y ∷ ys) x c in' out =
      ⊎_elim
      (λ (here : y ≡ x).
      let rest = no_more ys in
      subst (λ b. length (cond b (y ∷ filter q ys) (filter q ys)) < length (cond (p y) (y ∷ filter p ys) (filter p ys))) (sym (ap q here ∙ out))
      (subst (λ b. length (filter q ys) < length (cond b (y ∷ filter p ys) (filter p ys))) (sym (ap p here ∙ in')) (omega (arith, rest))))
      (λ (later : Contains ys x).
      let rest = fewer_pass ys x later in' out in
      elim (cases_Bool (q y)) [
        | inl t ↦ subst (λ b. length (cond b (y ∷ filter q ys) (filter q ys)) < length (cond (p y) (y ∷ filter p ys) (filter p ys))) (sym t)
            (subst (λ b. length (y ∷ filter q ys) < length (cond b (y ∷ filter p ys) (filter p ys))) (sym (weaker y t)) (omega (arith, rest)))
        | inr f ↦ subst (λ b. length (cond b (y ∷ filter q ys) (filter q ys)) < length (cond (p y) (y ∷ filter p ys) (filter p ys))) (sym f)
            (elim (p y) as (λ b. length (filter q ys) < length (cond b (y ∷ filter p ys) (filter p ys))) [ true ↦ omega (arith, rest) | false ↦ rest ])
      ])
      (Contains-cases y ys x c)

-- ---- all steps

abbrev pub steps_with : ℕ → ℕ → ℕ → List Step
steps_with rows i j = map (λ k. record { fd = i; first = j; second = k }) (range_with_len 0 rows)

abbrev pub steps_of : ℕ → ℕ → List Step
steps_of rows i = flat_map (steps_with rows i) (range_with_len 0 rows)

-- each dependency with each two rows
abbrev pub all_steps : ℕ → ℕ → List Step
all_steps fds rows = flat_map (steps_of rows) (range_with_len 0 fds)

pub in_all : (fds rows i j k : ℕ) → i < fds → j < rows → k < rows → Contains (all_steps fds rows) (record { fd = i; first = j; second = k })
in_all fds rows i j k il jl kl =
    let s : Step = record { fd = i; first = j; second = k } in
    Contains-flat_map (steps_of rows) (range_with_len 0 fds) i s (Contains-range fds i il)
    (Contains-flat_map (steps_with rows i) (range_with_len 0 rows) j s (Contains-range rows j jl) (Contains-map (λ n. record { fd = i; first = j; second = n }) (range_with_len 0 rows) k (Contains-range rows k kl)))
