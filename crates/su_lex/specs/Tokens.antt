-- What it is that a text is a list of tokens.
-- token: a word, a number, a text in quotes or a sign, the longest that stands there; gaps may stand before, between and behind tokens.
use Rattle.std.specs.Prelude.{◌≡◌, ◌≤◌, ℕ, ◌+◌, ◌-◌, List, [], ◌∷◌, ◌++◌, length, take, drop}
use Rattle.su_base.specs.Name.{IsWord}
use Rattle.su_lex.specs.Blanks.{Gap}
use Rattle.su_lex.specs.declared.kinds.TokenKind.TheVariants.{Word}
use Rattle.su_lex.specs.declared.kinds.Token.{Token}
use Rattle.su_lex.specs.TokenForms.{IsToken}

-- the tokens of text, the end of a text of this many bytes
abbrev pub TokensAt : ℕ → List ℕ → List Token → Type 0
TokensAt total text [] = Gap text []
TokensAt total text (t ∷ ts) = (s : List ℕ) × (front : List ℕ) × (rest : List ℕ) × Gap text s × (s ≡ front ++ rest) × IsToken t.kind front rest
    × (t.span.start + length s ≡ total) × (t.span.end + length rest ≡ total) × TokensAt total rest ts

-- the tokens of a text
abbrev pub Tokens : List ℕ → List Token → Type 0
Tokens text ts = TokensAt (length text) text ts

-- the bytes of the text from start on, before end
abbrev pub slice_of : List ℕ → ℕ → ℕ → List ℕ
slice_of text start end = take (end - start) (drop start text)

-- the token stands within the text, and a word is a word there
pub record InText (text : List ℕ) (t : Token) : Type 0 where
  pub ordered : t.span.start ≤ t.span.end
  pub within : t.span.end ≤ length text
  pub word : t.kind ≡ Word → IsWord (slice_of text t.span.start t.span.end)
