-- How deep parentheses stand.
-- deep: at some symbol more than 64 parentheses are open
use Rattle.std.specs.Prelude.{ℕ, ◌+◌, ◌<◌, ◌≤◌, Bool, true, false, List, take, length}
use Rattle.std.specs.List.{count_by}
use Rattle.su_lex.specs.declared.signs.Sign.TheVariants as sign
use Rattle.su_lex.specs.declared.meaning.Symbol.{Symbol}
use Rattle.su_lex.specs.declared.meaning.Symbol.TheVariants.{Sign}

-- an opening parenthesis
abbrev pub is_open : Symbol → Bool
is_open (Sign sign.Open) = true
is_open _ = false

-- a closing parenthesis
abbrev pub is_close : Symbol → Bool
is_close (Sign sign.Close) = true
is_close _ = false

-- the first k symbols have over 64 more opening parentheses than closing ones
abbrev pub IsDeepAt : List Symbol → ℕ → Type 0
IsDeepAt symbols k = count_by is_close (take k symbols) + 64 < count_by is_open (take k symbols)

-- so have some first symbols
abbrev pub IsDeep : List Symbol → Type 0
IsDeep symbols = (k : ℕ) × (k ≤ length symbols) × IsDeepAt symbols k
