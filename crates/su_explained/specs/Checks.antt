-- What words of lines must be.
-- word: bytes without a space; decimal: without leading zeros
use Rattle.std.specs.Prelude.{ℕ, ◌==◌, ◌-◌, ◌&&◌, nat_lt, length, slice_get, Bool, false, List, [], ◌∷◌, Option, Some, None}
use Rattle.std.specs.List.{list_all, list_any}
use Rattle.su_explained.specs.Numbers.{number_in}

-- there is such a number
abbrev pub some_is : (ℕ → Bool) → Option ℕ → Bool
some_is p None = false
some_is p (Some n) = p n

-- the word is the decimal of this number
unfoldable pub is_decimal : ℕ → List ℕ → Bool
is_decimal number word = some_is (λ n. n == number) (number_in word)

-- the word is the decimal of a number below this one
unfoldable pub is_decimal_below : ℕ → List ℕ → Bool
is_decimal_below end word = some_is (λ n. nat_lt n end) (number_in word)

-- the last byte is this one
abbrev pub ends : ℕ → List ℕ → Bool
ends byte word = some_is (λ b. b == byte) (slice_get word (length word - 1))

-- the first byte is this one
abbrev pub begins : ℕ → List ℕ → Bool
begins byte [] = false
begins byte (b ∷ bs) = b == byte

-- each word ends with a comma (44), but the last with this byte
abbrev pub separated : ℕ → List (List ℕ) → Bool
separated byte [] = false
separated byte (w ∷ []) = ends byte w
separated byte (w ∷ v ∷ ws) = ends 44 w && separated byte (v ∷ ws)

-- behind an opening parenthesis (40) the words are separated by commas, the last ends with this byte
unfoldable pub listed : ℕ → List (List ℕ) → Bool
listed byte [] = false
listed byte (w ∷ ws) = begins 40 w && separated byte (w ∷ ws)

-- each word has a sign of equality (61)
abbrev pub cells : List (List ℕ) → Bool
cells words = list_all (λ word. list_any (λ b. b == 61) word) words
