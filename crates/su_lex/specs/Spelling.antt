-- How symbols are spelled, one after another.
-- spaced: with one space between two, but for parentheses, commas and dots
use Rattle.std.specs.Prelude.{ℕ, Bool, true, false, ◌||◌, if◌then◌else◌, List, [], ◌∷◌, ◌++◌}
use Rattle.std.specs.Fmt.{signed_decimal}
use Rattle.su_lex.specs.TokenForms.{quoted, sign_bytes}
use Rattle.su_lex.specs.declared.meaning.Symbol.{Symbol}
use Rattle.su_lex.specs.declared.meaning.Symbol.TheVariants.{Word, Int, Text, Sign}
use Rattle.su_lex.specs.declared.signs.Sign.TheVariants as sign

-- how a symbol is written: numbers without leading zeros
abbrev pub spelled : Symbol → List ℕ
spelled (Word w) = w
spelled (Int n) = signed_decimal n
spelled (Text content) = quoted content
spelled (Sign s) = sign_bytes s

-- no space follows these
abbrev pub opens : Symbol → Bool
opens (Sign sign.Open) = true
opens (Sign sign.Dot) = true
opens _ = false

-- no space stands before these
abbrev pub closes : Symbol → Bool
closes (Sign sign.Close) = true
closes (Sign sign.Comma) = true
closes (Sign sign.Dot) = true
closes _ = false

-- how these are written behind x
abbrev pub after : Symbol → List Symbol → List ℕ
after x [] = []
after x (y ∷ ys) = if opens x || closes y then spelled y ++ after y ys else 32 ∷ (spelled y ++ after y ys)

-- symbols as they are written, with blanks where one is wanted
abbrev pub spaced : List Symbol → List ℕ
spaced [] = []
spaced (x ∷ xs) = spelled x ++ after x xs
