-- What the words of the command line ask for.
-- word: one of the command line, without the program's name
use Rattle.std.specs.Prelude.{◌≡◌, ◌≤◌, ℕ, decimal, ◌&&◌, Bool, false, List, [], ◌∷◌, ◌++◌, Option, Some, None, cond, codes, bytes_eq, nat_eq, nat_lt}

-- the two files that a run reads
pub record Named : Type 0 where
  pub schema : List ℕ
  pub script : List ℕ

-- whether the word is the decimal of a number from 1 to 16: a digit that is no 0, or 1 and a digit up to 6
abbrev pub is_count : List ℕ → Bool
is_count (d ∷ []) = nat_lt 48 d && nat_lt d 58
is_count (one ∷ d ∷ []) = nat_eq one 49 && (nat_lt 47 d && nat_lt d 55)
is_count word = false

-- the files that the words name, where they are `run SCHEMA SCRIPT` or `run SCHEMA SCRIPT --workers N`
abbrev pub named : List (List ℕ) → Option Named
named (word ∷ schema ∷ script ∷ []) = cond (bytes_eq word (codes "run")) (Some (record { schema = schema; script = script })) None
named (word ∷ schema ∷ script ∷ option ∷ number ∷ []) =
    cond (bytes_eq word (codes "run") && bytes_eq option (codes "--workers") && is_count number) (Some (record { schema = schema; script = script })) None
named words = None

-- the certificate's file, where the words are `check FILE`
abbrev pub checks : List (List ℕ) → Option (List ℕ)
checks (word ∷ file ∷ []) = cond (bytes_eq word (codes "check")) (Some file) None
checks words = None

-- the words ask for a bank with n rows in each relation: `generate N`, N the decimal of a number from 1 to 1,000
abbrev pub Generates : List (List ℕ) → ℕ → Type 0
Generates words n = (1 ≤ n) × (n ≤ 1000) × (words ≡ codes "generate" ∷ decimal n ∷ [])

-- what is written for words of any other form
abbrev pub usage_line : List ℕ
usage_line = codes "usage: sysu run SCHEMA SCRIPT [--workers N] | sysu generate N | sysu check FILE" ++ 10 ∷ []
