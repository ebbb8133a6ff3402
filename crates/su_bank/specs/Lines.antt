-- The first and the last line of a text, and the line that tells what is found of a query.
-- line: what stands before a line feed, or behind the last one
use Rattle.std.specs.Prelude.{◌-◌, ◌==◌, ◌++◌, ℕ, Bool, List, codes, decimal, length, take}
use Rattle.std.specs.List.{before_first, after_last}

-- a line feed
abbrev pub is_feed : ℕ → Bool
is_feed b = b == 10

-- what stands before the first line feed
abbrev pub first_line : List ℕ → List ℕ
first_line text = before_first is_feed text

-- what stands behind the last line feed but the byte that ends the text
abbrev pub last_line : List ℕ → List ℕ
last_line text = after_last is_feed (take (length text - 1) text)

-- the line of a query, by the replies to its explanation and to itself
abbrev pub found_line : ℕ → List ℕ → List ℕ → List ℕ
found_line number explained answered = codes "query " ++ decimal number ++ codes ": " ++ last_line explained ++ codes " " ++ first_line answered ++ codes "\n"
