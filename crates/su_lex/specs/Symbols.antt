-- A text as the symbols that it is made of: its tokens without their places, words by their bytes.
-- spaced: how symbols are written, with one space between two, but for parentheses, commas and dots
use Rattle.std.specs.Prelude.{◌≡◌, ◌≤◌, ℕ, List, length, map}
use Rattle.std.specs.Int.{w64}
use Rattle.std.specs.Int.RustNames.{FitsSigned}
use Rattle.std.specs.Str.{IsUtf8}
use Rattle.su_base.specs.Name.{IsWord}
use Rattle.su_lex.specs.Tokens.{Tokens, slice_of}
use Rattle.su_lex.specs.declared.kinds.Token.{Token}
use Rattle.su_lex.specs.declared.kinds.TokenKind.{TokenKind}
use Rattle.su_lex.specs.declared.kinds.TokenKind.TheVariants as kind
use Rattle.su_lex.specs.declared.meaning.Symbol.{Symbol}
use Rattle.su_lex.specs.declared.meaning.Symbol.TheVariants.{Word, Int, Text, Sign}

-- the symbol of a token of this kind with these bytes
abbrev pub symbol_at : TokenKind → List ℕ → Symbol
symbol_at kind.Word bytes = Word bytes
symbol_at (kind.Int n) bytes = Int n
symbol_at (kind.Text content) bytes = Text content
symbol_at (kind.Sign s) bytes = Sign s

-- the symbol that a token of the text is
abbrev pub symbol_of : List ℕ → Token → Symbol
symbol_of text t = symbol_at t.kind (slice_of text t.span.start t.span.end)

-- the text is made of these symbols
abbrev pub Symbols : List ℕ → List Symbol → Type 0
Symbols text symbols = (tokens : List Token) × Tokens text tokens × (symbols ≡ map (symbol_of text) tokens)

-- what a symbol can be
abbrev pub IsSymbol : Symbol → Type 0
IsSymbol (Word w) = IsWord w
IsSymbol (Int n) = FitsSigned w64 n
IsSymbol (Text content) = IsUtf8 content × (length content ≤ 4096)
IsSymbol (Sign s) = Unit {0}
