-- A row of the right width, over variables that are apart, is what a valuation gives.
use Rattle.std.proofs.Common.{◌≡◌, ℕ, true, false, List, [], ◌∷◌, length, get_or, refl, sym, ap, subst, ◌∙◌, ⊎_elim, arith}
use Rattle.std.specs.Prelude.{map, cond, nat_eq}
use Rattle.std.specs.List.{All}
use Rattle.std.proofs.lemmas.Bool.{cases_eq, true≢false}
use Rattle.std.proofs.lemmas.Bool.Decides.{nat_tests}
use Rattle.su_exec.specs.inside.Edges.{has}
use Rattle.su_exec.specs.inside.Joins.{IsReal, IsApart}
use Rattle.su_exec.proofs.PartSteps.{agree_from}

abbrev read : List ℕ → List ℕ → ℕ → ℕ
read [] rs k = 0
read (x ∷ xs) [] k = 0
read (x ∷ xs) (r ∷ rs) k = cond (nat_eq x k) r (read xs rs k)

reads : (xs rs : List ℕ) → IsApart xs → length rs ≡ length xs → map (read xs rs) xs ≡ rs
reads [] [] apart l = refl
reads [] (r ∷ rs) apart l = absurd (omega arith)
reads (x ∷ xs) [] apart l = absurd (omega arith)
reads (x ∷ xs) (r ∷ rs) apart l =
    let i = reads xs rs apart.1 (omega arith) in
    let first : read (x ∷ xs) (r ∷ rs) x ≡ r = grind (arith, nat_tests) in
    let rest : map (read (x ∷ xs) (r ∷ rs)) xs ≡ map (read xs rs) xs = agree_from (read (x ∷ xs) (r ∷ rs)) (read xs rs) xs (λ k h.
    ⊎_elim
    (λ (e : x ≡ k). absurd (true≢false (sym (subst (λ k. has xs k ≡ true) (sym e) h) ∙ apart.0)))
    (λ (e : x ≡ k → ⊥). let f : nat_eq x k ≡ false = grind (arith, nat_tests, e) in ap (λ b. cond b r (read xs rs k)) f)
    (cases_eq x k)) in
    ap (λ v. v ∷ map (read (x ∷ xs) (r ∷ rs)) xs) first ∙ ap (λ vs. r ∷ vs) (rest ∙ i)

pub real_from_widths : (vars : List ℕ) (rows : List (List ℕ)) → IsApart vars → All (λ r. length r ≡ length vars) rows → IsReal (record { vars = vars; rows = rows })
real_from_widths vars rows apart widths k d l = (read vars (get_or rows k d), reads vars (get_or rows k d) apart (widths k d l))
