-- One token's step: the choice of its sort is the only one that takes it.
use Rattle.std.proofs.Common.{◌≡◌, ◌≤◌, ℕ, zero, suc, Some, None, List, ◌∷◌, sym, subst, arith}
use Rattle.su_lex.specs.declared.meaning.Symbol.{Symbol}
use Rattle.su_faults.specs.declared.sorts.Sort.{Sort}
use Rattle.su_faults.specs.declared.spots.Move.{Move}
use Rattle.su_faults.specs.declared.spots.Move.TheVariants.{To, Up, Down, On}
use Rattle.su_faults.specs.declared.spots.State.{State}
use Rattle.su_faults.specs.inside.Firsts.{IsFirstOfSort}
use Rattle.su_faults.specs.inside.Machine.{Accepts, IsChosen, choices_of, is_flat, lower, moved}
use Rattle.su_faults.specs.inside.Steps.{IsNext}
use Rattle.su_faults.proofs.Reading.{same_symbol}
use Rattle.su_faults.proofs.Sorted.{distinct_at, only_one, the_one, none_chosen}

lower_le : (n : ℕ) → lower n ≤ suc n
lower_le zero = omega arith
lower_le (suc n) = omega arith

level_moved : (m : Move) (s : State) → (moved m s).level ≤ suc s.level
level_moved (To spot) s = omega arith
level_moved (Up spot) s = omega arith
level_moved (Down spot) s = lower_le s.level
level_moved (On f spot) s = omega arith

pub step_told : (s : State) (rest : List ℕ) (k : Sort) (n : ℕ) (m : Move) (to : State) → IsFirstOfSort rest (Some (k, n)) → IsChosen (choices_of s) k (Some m) → to ≡ moved m s → IsNext s rest (Some (to, n))
step_told s rest k n m to first chosen is = subst (λ (t : State). IsNext s rest (Some (t, n))) (sym is) (
  first.0,
  first.1,
  λ xs. (
    λ h. only_one (λ j. Accepts xs (moved j s)) (choices_of s) k first.0 m (distinct_at s.spot s.frame (is_flat s.level)) first.2 chosen h,
    λ h. the_one (λ j. Accepts xs (moved j s)) (choices_of s) k first.0 m first.2 chosen h,
  ),
  level_moved m s,
)

pub no_step : (s : State) (rest : List ℕ) (k : Sort) (n : ℕ) → IsFirstOfSort rest (Some (k, n)) → IsChosen (choices_of s) k None → IsNext s rest None
no_step s rest k n first chosen x front r e t xs h =
    let same = same_symbol rest x first.0 n front r first.1 e t in
    none_chosen (λ j. Accepts xs (moved j s)) (choices_of s) k first.0 first.2 chosen (subst (λ (y : Symbol). Accepts (y ∷ xs) s) same h)

pub no_token : (s : State) (rest : List ℕ) → IsFirstOfSort rest None → IsNext s rest None
no_token s rest none x front r e t xs h = none t.0 front r e t.1
