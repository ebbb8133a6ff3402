-- What holds of pieces and tokens.
-- pieces, tokens, symbols: as in Pieces, Tokens and Symbols
use Rattle.std.specs.Prelude.{◌≡◌, ℕ, List, All}
use Rattle.su_lex.specs.Pieces.{Pieces}
use Rattle.su_lex.specs.Symbols.{Symbols, IsSymbol}
use Rattle.su_lex.specs.Spelling.{spaced}
use Rattle.su_lex.specs.declared.meaning.Symbol.{Symbol}
use Rattle.su_lex.specs.Tokens.{Tokens}
use Rattle.su_lex.specs.declared.spans.Span.{Span}
use Rattle.su_lex.specs.declared.kinds.Token.{Token}

-- a file has at most one list of statements
abbrev pub OneListOfPieces : Type 0
OneListOfPieces = (file : List ℕ) (spans others : List Span) → Pieces file spans → Pieces file others → spans ≡ others

-- a text has at most one list of tokens
abbrev pub OneListOfTokens : Type 0
OneListOfTokens = (text : List ℕ) (tokens others : List Token) → Tokens text tokens → Tokens text others → tokens ≡ others

-- symbols as they are written are read as these symbols
abbrev pub SpacedIsRead : Type 0
SpacedIsRead = (symbols : List Symbol) → All IsSymbol symbols → Symbols (spaced symbols) symbols

-- a text is made of one list of symbols, and each is one
abbrev pub OneListOfSymbols : Type 0
OneListOfSymbols = (text : List ℕ) (symbols others : List Symbol) → Symbols text symbols → Symbols text others → (symbols ≡ others) × All IsSymbol symbols
