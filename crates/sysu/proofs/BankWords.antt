-- Two words that ask for a bank.
use Rattle.std.proofs.Common.{◌≡◌, ◌<◌, ◌≤◌, ◌∙◌, ℕ, List, [], ◌∷◌, Option, Some, None, MatchOption, length, get_or, sym, ap, arith}
use Rattle.std.specs.Prelude.{codes}
use Rattle.su_bank.specs.Scripts.{IsRowCount}
use Rattle.sysu.specs.Words.{Generates}

are_two : (words : List (List ℕ)) (word digits : List ℕ) → 2 ≤ length words → length words < 3 → word ≡ get_or words 0 word → digits ≡ get_or words 1 digits → words ≡ word ∷ digits ∷ []
are_two [] word digits least most first second = absurd (omega (arith, least))
are_two (a ∷ []) word digits least most first second = absurd (omega (arith, least))
are_two (a ∷ b ∷ []) word digits least most first second = cc
are_two (a ∷ b ∷ c ∷ rest) word digits least most first second = absurd (omega (arith, most))

-- they ask for as many rows as the second word tells
pub asked_by : (words : List (List ℕ)) (word digits : List ℕ) → 2 ≤ length words → length words < 3 → word ≡ get_or words 0 word → digits ≡ get_or words 1 digits → word ≡ codes "generate" → (r : Option ℕ)
    → MatchOption r ((n : ℕ) → ¬ IsRowCount digits n) (IsRowCount digits) → MatchOption r ((n : ℕ) → ¬ Generates words n) (Generates words)
asked_by words word digits least most first second is None none =
    λ n asked. none n (asked.0, asked.1, ap (λ (ws : List (List ℕ)). get_or ws 1 []) (sym (are_two words word digits least most first second) ∙ asked.2))
asked_by words word digits least most first second is (Some n) (low, high, same) = (low, high, are_two words word digits least most first second ∙ cc)
