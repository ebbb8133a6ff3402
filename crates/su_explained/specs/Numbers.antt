-- Numbers below 1,000 as decimals without leading zeros.
-- word: bytes without a space
use Rattle.std.specs.Prelude.{ℕ, ◌+◌, ◌-◌, ◌*◌, ◌==◌, ◌&&◌, nat_le, if◌then◌else◌, List, [], ◌∷◌, Option, Some, None}
use Rattle.std.specs.Option.{option_and_then, option_map}

-- the value of a digit
abbrev pub digit_of : ℕ → Option ℕ
digit_of b = if nat_le 48 b && nat_le b 57 then Some (b - 48) else None

-- the number with one more digit behind it
abbrev pub with_digit : ℕ → ℕ → Option ℕ
with_digit b front = if front == 0 then None else option_map (λ d. front * 10 + d) (digit_of b)

-- the number that the word is the decimal of, if it has at most three digits
abbrev pub number_in : List ℕ → Option ℕ
number_in (a ∷ []) = digit_of a
number_in (a ∷ b ∷ []) = option_and_then (with_digit b) (digit_of a)
number_in (a ∷ b ∷ c ∷ []) = option_and_then (with_digit c) (option_and_then (with_digit b) (digit_of a))
number_in word = None
