-- What the first bytes of a text tell of its first token.
-- class: of a token, by what its first bytes are: a word, a number, a text or a sign; quoted part: a byte of a text's content, its end, or none
-- bytes: 33 !  39 '  40 (  41 )  44 ,  45 -  46 .  60 <  61 =  62 >
-- No public contract cites this module.
use Rattle.std.specs.Prelude.{Option, Some, None, ℕ, ◌&&◌, ◌||◌, if◌then◌else◌, ◌==◌, List, [], ◌∷◌}
use Rattle.std.specs.Char.{is_ascii_digit}
use Rattle.su_base.specs.Name.{is_letter}
use Rattle.su_lex.specs.Blanks.{begins}
use Rattle.su_lex.specs.declared.signs.Sign.{Sign}
use Rattle.su_lex.specs.declared.signs.Sign.TheVariants.{Open, Close, Comma, Dot, Arrow, Equal, NotEqual, Less, LessEqual, Greater, GreaterEqual}
use Rattle.su_lex.specs.declared.quoting.QuotedPart.{QuotedPart}
use Rattle.su_lex.specs.declared.quoting.QuotedPart.TheVariants.{Content, Close as AClose, Missing}
use Rattle.su_lex.specs.declared.firsts.Class.{Class}
use Rattle.su_lex.specs.declared.firsts.Class.TheVariants.{Word as OfWord, Number as OfNumber, Text as OfText, Sign as OfSign}

-- what the first one or two bytes begin; none, a sign
abbrev pub class_at : List ℕ → Class
class_at [] = OfSign
class_at (b ∷ bs) = if is_letter b then OfWord else (if is_ascii_digit b || (b == 45 && begins is_ascii_digit bs) then OfNumber else (if b == 39 then OfText else OfSign))

-- the longest sign at the front
abbrev pub sign_at : List ℕ → Option Sign
sign_at [] = None
sign_at (b ∷ bs) =
    if b == 40 then Some Open else (if b == 41 then Some Close else (if b == 44 then Some Comma else (if b == 46 then Some Dot else
    (if b == 45 then (if begins (λ c. c == 62) bs then Some Arrow else None) else (if b == 61 then Some Equal else
    (if b == 33 then (if begins (λ c. c == 61) bs then Some NotEqual else None) else
    (if b == 60 then (if begins (λ c. c == 61) bs then Some LessEqual else Some Less) else
    (if b == 62 then (if begins (λ c. c == 61) bs then Some GreaterEqual else Some Greater) else None))))))))

-- what stands at a place within a text
abbrev pub place_at : List ℕ → QuotedPart
place_at [] = Missing
place_at (b ∷ bs) = if b == 39 then (if begins (λ c. c == 39) bs then Content 39 else AClose) else Content b
