-- Which texts may name an attribute, a relation, a column, an object or a variable.
-- letter: an ASCII letter or `_`; word: a letter, then letters and digits, 1 to 64 bytes; name: a word that is not reserved
use Rattle.std.specs.Prelude.{◌≡◌, ℕ, ◌<◌, Bool, ◌||◌, ◌==◌, nat_le, ◌&&◌, IsTrue, List, [], ◌∷◌, length, All, codes, false}
use Rattle.std.specs.List.{list_any}
use Rattle.std.specs.Cmp.Lexicographic.{pointwise}

-- `A` to `Z`, `a` to `z` or `_`
abbrev pub is_letter : ℕ → Bool
is_letter b = (nat_le 65 b && nat_le b 90) || (nat_le 97 b && nat_le b 122) || (b == 95)

-- or an ASCII digit
abbrev pub is_letter_or_digit : ℕ → Bool
is_letter_or_digit b = is_letter b || (nat_le 48 b && nat_le b 57)

-- a letter or `_`, then letters, digits and `_`, at most 64 bytes
abbrev pub IsWord : List ℕ → Type 0
IsWord [] = ⊥
IsWord (b ∷ bs) = IsTrue (is_letter b) × All (λ c. IsTrue (is_letter_or_digit c)) bs × (length bs < 64)

-- the words of the language
abbrev pub reserved : List (List ℕ)
reserved = codes "attribute" ∷ codes "relation" ∷ codes "object" ∷ codes "from" ∷ codes "fd" ∷ codes "maximal" ∷ codes "int" ∷ codes "text" ∷ codes "insert" ∷ codes "delete" ∷ codes "where" ∷ codes "load" ∷ codes "print" ∷ codes "schema" ∷ codes "closure" ∷ codes "retrieve" ∷ codes "explain" ∷ codes "and" ∷ codes "or" ∷ codes "not" ∷ codes "compare" ∷ codes "with" ∷ codes "window" ∷ []

-- the bytes are one of the reserved words
abbrev pub is_reserved_word : List ℕ → Bool
is_reserved_word bs = list_any (λ word. pointwise ◌==◌ word bs) reserved

-- a word that the language does not use itself
abbrev pub IsName : List ℕ → Type 0
IsName bs = IsWord bs × (is_reserved_word bs ≡ false)

-- names, one at least
pub record AreNames (names : List (List ℕ)) : Type 0 where
  pub some : 0 < length names
  pub named : All IsName names
