-- The first token and the first symbol of a text.
-- token: a word, a numeral, a text in quotes or a sign; kind: which of these, with its number, content or sign; symbol: the same, for a word with its bytes
-- front: the bytes of the token; rest: those behind it, which may not make it longer
-- No public contract cites this module.
use Rattle.std.specs.Prelude.{◌≡◌, ℕ, List, ◌++◌, length}
use Rattle.su_lex.specs.TokenForms.{IsToken}
use Rattle.su_lex.specs.declared.kinds.TokenKind.{TokenKind}
use Rattle.su_lex.specs.declared.kinds.TokenKind.TheVariants as kind
use Rattle.su_lex.specs.declared.meaning.Symbol.{Symbol}
use Rattle.su_lex.specs.declared.meaning.Symbol.TheVariants.{Word, Int, Text, Sign}

-- the text's first token, and how many bytes it takes
abbrev pub IsFirstToken : List ℕ → TokenKind → ℕ → Type 0
IsFirstToken text kind n = (front : List ℕ) × (rest : List ℕ) × (text ≡ front ++ rest) × (n ≡ length front) × IsToken kind front rest

-- no token stands at the front
abbrev pub HasNoFirstToken : List ℕ → Type 0
HasNoFirstToken text = (kind : TokenKind) (front rest : List ℕ) → text ≡ front ++ rest → ¬ (IsToken kind front rest)

-- the front is the token of this symbol, and for a word its own bytes
abbrev pub IsTokenOf : Symbol → List ℕ → List ℕ → Type 0
IsTokenOf (Word w) front rest = (front ≡ w) × IsToken kind.Word front rest
IsTokenOf (Int n) front rest = IsToken (kind.Int n) front rest
IsTokenOf (Text content) front rest = IsToken (kind.Text content) front rest
IsTokenOf (Sign s) front rest = IsToken (kind.Sign s) front rest

-- the text's first symbol, and how many bytes it takes
abbrev pub IsFirstSymbol : List ℕ → Symbol → ℕ → Type 0
IsFirstSymbol text x n = (front : List ℕ) × (rest : List ℕ) × (text ≡ front ++ rest) × (n ≡ length front) × IsTokenOf x front rest
