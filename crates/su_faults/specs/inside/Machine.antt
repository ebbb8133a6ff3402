-- How tokens lead from state to state.
-- state: what comes next, within what, and how many are open; choice: a kind of token, and where it leads
-- No public contract cites this module.
use Rattle.std.specs.Prelude.{◌≡◌, ℕ, zero, suc, Bool, true, false, ◌⊎◌, Option, Some, None, List, [], ◌∷◌}
use Rattle.su_lex.specs.declared.meaning.Symbol.{Symbol}
use Rattle.su_faults.specs.declared.sorts.Sort.{Sort}
use Rattle.su_faults.specs.declared.sorts.Sort.TheVariants as sort
use Rattle.su_faults.specs.declared.spots.Language.{Language}
use Rattle.su_faults.specs.declared.spots.Spot.TheVariants.{Start}
use Rattle.su_faults.specs.declared.spots.Frame.TheVariants.{Alone}
use Rattle.su_faults.specs.declared.spots.Move.{Move}
use Rattle.su_faults.specs.declared.spots.Move.TheVariants.{To, Up, Down, On}
use Rattle.su_faults.specs.declared.spots.State.{State}
use Rattle.su_faults.specs.Sorts.{IsOfSort}
use Rattle.su_faults.specs.inside.Choices.{Choices, choices_at}

-- none are open
abbrev pub is_flat : ℕ → Bool
is_flat zero = true
is_flat (suc n) = false

-- one fewer
abbrev pub lower : ℕ → ℕ
lower zero = zero
lower (suc n) = n

-- the state that a move leads to
abbrev pub moved : Move → State → State
moved (To spot) s = record { spot = spot; frame = s.frame; level = s.level }
moved (Up spot) s = record { spot = spot; frame = s.frame; level = suc s.level }
moved (Down spot) s = record { spot = spot; frame = s.frame; level = lower s.level }
moved (On frame spot) s = record { spot = spot; frame = frame; level = s.level }

-- before the first token
abbrev pub started : Language → State
started language = record { spot = Start language; frame = Alone; level = 0 }

-- what may come next in a state
abbrev pub choices_of : State → Choices
choices_of s = choices_at s.spot s.frame (is_flat s.level)

-- where the first choice of this sort leads
abbrev pub IsChosen : Choices → Sort → Option Move → Type 0
IsChosen [] sort step = step ≡ None
IsChosen (c ∷ cs) sort step = ((c.0 ≡ sort) × (step ≡ Some c.1)) ⊎ (¬ (c.0 ≡ sort) × IsChosen cs sort step)

-- some choice has what is asked for
abbrev pub HasChoice : (Sort × Move → Type 0) → Choices → Type 0
HasChoice P [] = ⊥
HasChoice P (c ∷ cs) = P c ⊎ HasChoice P cs

-- nothing more may come
abbrev pub IsEnd : Sort → Type 0
IsEnd sort.End = Unit {0}
IsEnd _ = ⊥

-- from this state the tokens lead to an end
abbrev pub Accepts : List Symbol → State → Type 0
Accepts [] s = HasChoice (λ c. IsEnd c.0) (choices_of s)
Accepts (x ∷ xs) s = HasChoice (λ c. IsOfSort c.0 x × Accepts xs (moved c.1 s)) (choices_of s)
