-- Variables that checks compare are wanted.
use Rattle.std.proofs.Common.{◌≡◌, ℕ, zero, suc, ◌+◌, ◌<◌, true, List, [], ◌∷◌, ◌++◌, length, take, get_or, sym, ap, ◌∙◌, inr, ⊎_elim, arith}
use Rattle.std.proofs.lemmas.Bool.{true≢false, or_cases}
use Rattle.su_exec.specs.declared.checks.Check.{Check}
use Rattle.su_exec.specs.inside.Bodies.{IsWanted}
use Rattle.su_exec.specs.inside.Checks.{check_vars, vars_of}
use Rattle.su_exec.specs.inside.Edges.{Edge, has}
use Rattle.su_exec.proofs.BodySteps.{has_either, has_first, has_second}
use Rattle.su_exec.proofs.CheckTests.{has_more}

-- the variables of one of the checks
vars_in : (cs : List Check) (i : ℕ) (d : Check) (k : ℕ) → i < length cs → has (vars_of (get_or cs i d).left ++ vars_of (get_or cs i d).right) k ≡ true → has (check_vars cs) k ≡ true
vars_in [] i d k l h = absurd (omega arith)
vars_in (c ∷ cs) zero d k l h =
    ⊎_elim
    (λ (x : has (vars_of c.left) k ≡ true). has_first (vars_of c.left) (vars_of c.right ++ check_vars cs) k x)
    (λ (x : has (vars_of c.right) k ≡ true). has_second (vars_of c.left) (vars_of c.right ++ check_vars cs) k (has_first (vars_of c.right) (check_vars cs) k x))
    (has_either (vars_of c.left) (vars_of c.right) k h)
vars_in (c ∷ cs) (suc i) d k l h =
    has_second (vars_of c.left) (vars_of c.right ++ check_vars cs) k (has_second (vars_of c.right) (check_vars cs) k (vars_in cs i d k (omega arith) h))

-- one check's variables are put after those that are there
module _ (needed : List ℕ) (es : List (Edge ℕ)) (cs : List Check) (i : ℕ) (d : Check) (l : i < length cs) (olds middle news : List ℕ) (first : middle ≡ olds ++ vars_of (get_or cs i d).left) (second : news ≡ middle ++ vars_of (get_or cs i d).right) where
  pub stays_wanted : (k : ℕ) → has olds k ≡ true → has news k ≡ true
  stays_wanted k h = ap (λ xs. has xs k) second ∙ has_first middle (vars_of (get_or cs i d).right) k (ap (λ xs. has xs k) first ∙ has_first olds (vars_of (get_or cs i d).left) k h)

  of_check : (k : ℕ) → has (check_vars (get_or cs i d ∷ [])) k ≡ true → has news k ≡ true
  of_check k h =
      let lefts = vars_of (get_or cs i d).left in
      let rights = vars_of (get_or cs i d).right in
      ⊎_elim
      (λ (x : has lefts k ≡ true). ap (λ xs. has xs k) second ∙ has_first middle rights k (ap (λ xs. has xs k) first ∙ has_second olds lefts k x))
      (λ (x : has (rights ++ []) k ≡ true).
      ⊎_elim
      (λ (y : has rights k ≡ true). ap (λ xs. has xs k) second ∙ has_second middle rights k y)
      (λ (y : has [] k ≡ true). absurd (true≢false (sym y)))
      (has_either rights [] k x))
      (has_either lefts (rights ++ []) k h)

  pub checks_wanted : ((k : ℕ) → has (check_vars (take i cs)) k ≡ true → has olds k ≡ true) → (k : ℕ) → has (check_vars (take (i + 1) cs)) k ≡ true → has news k ≡ true
  checks_wanted before k h =
      ⊎_elim
      (λ (x : has (check_vars (take i cs)) k ≡ true). stays_wanted k (before k x))
      (λ (x : has (check_vars (get_or cs i d ∷ [])) k ≡ true). of_check k x)
      (or_cases (has (check_vars (take i cs)) k) (has (check_vars (get_or cs i d ∷ [])) k) (sym (has_more cs i d l k) ∙ h))

  pub only_wanted : ((k : ℕ) → has olds k ≡ true → IsWanted needed es cs k) → (k : ℕ) → has news k ≡ true → IsWanted needed es cs k
  only_wanted before k h =
      let lefts = vars_of (get_or cs i d).left in
      let rights = vars_of (get_or cs i d).right in
      ⊎_elim
      (λ (x : has middle k ≡ true).
      ⊎_elim
      (λ (y : has olds k ≡ true). before k y)
      (λ (y : has lefts k ≡ true). inr (inr (vars_in cs i d k l (has_first lefts rights k y))))
      (has_either olds lefts k (ap (λ xs. has xs k) (sym first) ∙ x)))
      (λ (x : has rights k ≡ true). inr (inr (vars_in cs i d k l (has_second lefts rights k x))))
      (has_either middle rights k (ap (λ xs. has xs k) (sym second) ∙ h))
