-- The forms of tokens: words, numerals, texts in quotes and signs.
-- numeral: digits, a minus before them or none; doubled: each quote twice
use Rattle.std.specs.Prelude.{◌≡◌, ◌≤◌, ℕ, Bool, true, false, ◌&&◌, ◌||◌, if◌then◌else◌, ◌==◌, List, [], ◌∷◌, ◌++◌, length}
use Rattle.std.specs.Char.{is_ascii_digit}
use Rattle.std.specs.List.{list_all}
use Rattle.std.specs.Str.{IsUtf8}
use Rattle.std.specs.Str.Parse.{signed_digits_value}
use Rattle.std.specs.Int.{w64}
use Rattle.std.specs.Int.RustNames.{FitsSigned}
use Rattle.su_base.specs.Name.{is_letter_or_digit, IsWord}
use Rattle.su_lex.specs.Blanks.{begins}
use Rattle.su_lex.specs.declared.kinds.TokenKind.{TokenKind}
use Rattle.su_lex.specs.declared.kinds.TokenKind.TheVariants.{Word, Int, Text, Sign as ASign}
use Rattle.su_lex.specs.declared.signs.Sign.{Sign}
use Rattle.su_lex.specs.declared.signs.Sign.TheVariants.{Open, Close, Comma, Dot, Arrow, Equal, NotEqual, Less, LessEqual, Greater, GreaterEqual}

-- a digit, or a minus with a digit behind it, and then digits
abbrev pub IsNumeral : List ℕ → Type 0
IsNumeral [] = ⊥
IsNumeral (b ∷ bs) = ((is_ascii_digit b || (b == 45 && begins is_ascii_digit bs)) ≡ true) × (list_all is_ascii_digit bs ≡ true)

-- how a byte of a text's content is written: a quote twice, any other byte once
abbrev pub twice : ℕ → List ℕ
twice b = if b == 39 then 39 ∷ 39 ∷ [] else b ∷ []

-- each quote twice
abbrev pub doubled : List ℕ → List ℕ
doubled [] = []
doubled (b ∷ bs) = twice b ++ doubled bs

-- how a text of this content is written
abbrev pub quoted : List ℕ → List ℕ
quoted content = 39 ∷ (doubled content ++ 39 ∷ [])

-- ( ) , . -> = != < <= > >=
abbrev pub sign_bytes : Sign → List ℕ
sign_bytes Open = 40 ∷ []
sign_bytes Close = 41 ∷ []
sign_bytes Comma = 44 ∷ []
sign_bytes Dot = 46 ∷ []
sign_bytes Arrow = 45 ∷ 62 ∷ []
sign_bytes Equal = 61 ∷ []
sign_bytes NotEqual = 33 ∷ 61 ∷ []
sign_bytes Less = 60 ∷ []
sign_bytes LessEqual = 60 ∷ 61 ∷ []
sign_bytes Greater = 62 ∷ []
sign_bytes GreaterEqual = 62 ∷ 61 ∷ []

-- whether this byte behind the sign makes a longer sign
abbrev pub lengthens : Sign → ℕ → Bool
lengthens Less b = b == 61
lengthens Greater b = b == 61
lengthens _ b = false

-- The front is a token of this kind, and the rest does not make it longer: no letter, digit or `_` follows a word or a number, no quote a text.
abbrev pub IsToken : TokenKind → List ℕ → List ℕ → Type 0
IsToken Word front rest = IsWord front × (begins is_letter_or_digit rest ≡ false)
IsToken (Int n) front rest = IsNumeral front × (n ≡ signed_digits_value 10 front) × FitsSigned w64 n × (begins is_letter_or_digit rest ≡ false)
IsToken (Text content) front rest = (front ≡ quoted content) × IsUtf8 content × (length content ≤ 4096) × (begins (λ b. b == 39) rest ≡ false)
IsToken (ASign sign) front rest = (front ≡ sign_bytes sign) × (begins (lengthens sign) rest ≡ false)
