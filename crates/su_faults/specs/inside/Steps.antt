-- One token's step from state to state.
-- No public contract cites this module.
use Rattle.std.specs.Prelude.{◌≡◌, ◌≤◌, ◌↔◌, ℕ, suc, Option, Some, None, List, ◌∷◌, ◌++◌}
use Rattle.su_lex.specs.inside.Firsts.{IsFirstSymbol}
use Rattle.su_lex.specs.declared.meaning.Symbol.{Symbol}
use Rattle.su_faults.specs.declared.spots.State.{State}
use Rattle.su_faults.specs.Faults.{IsTokenFor}
use Rattle.su_faults.specs.inside.Machine.{Accepts}

-- the state behind the first token of the rest, and its length; none where no token stands there that leads to an end
abbrev pub IsNext : State → List ℕ → Option (State × ℕ) → Type 0
IsNext s rest None = (x : Symbol) (front r : List ℕ) → rest ≡ front ++ r → IsTokenFor x front r → (xs : List Symbol) → ¬ (Accepts (x ∷ xs) s)
IsNext s rest (Some t) = (x : Symbol) × IsFirstSymbol rest x t.1 × ((xs : List Symbol) → Accepts (x ∷ xs) s ↔ Accepts xs t.0) × (t.0.level ≤ suc s.level)
