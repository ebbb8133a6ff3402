-- The first token of a text, and its sort.
-- class: of a token, by its first bytes; part: a byte of a text's content, its end, or none
-- No public contract cites this module.
use Rattle.std.specs.Prelude.{◌≡◌, ℕ, ◌==◌, if◌then◌else◌, Option, Some, None, List, [], ◌∷◌, ◌++◌, length, drop, false}
use Rattle.std.specs.Cmp.Lexicographic.{pointwise}
use Rattle.su_lex.specs.inside.Firsts.{IsFirstToken, HasNoFirstToken, IsFirstSymbol}
use Rattle.su_lex.specs.declared.kinds.TokenKind.TheVariants.{Text as AText}
use Rattle.su_lex.specs.declared.meaning.Symbol.{Symbol}
use Rattle.su_lex.specs.Blanks.{begins}
use Rattle.su_lex.specs.TokenForms.{twice}
use Rattle.su_lex.specs.inside.Classes.{class_at}
use Rattle.su_faults.specs.declared.quoting.Part.{Part}
use Rattle.su_faults.specs.declared.quoting.Part.TheVariants.{Content, Close, Missing}
use Rattle.su_faults.specs.declared.firsts.Class.{Class}
use Rattle.su_faults.specs.declared.firsts.Class.TheVariants.{OfWord, OfNumber, OfText, OfSign}
use Rattle.su_faults.specs.declared.sorts.Sort.{Sort}
use Rattle.su_faults.specs.declared.sorts.Word.{Word}
use Rattle.su_faults.specs.declared.sorts.Word.TheVariants as word
use Rattle.su_faults.specs.Sorts.{IsOfSort, spelling}

-- the rest begins with a byte of a text's content, or ends the text, or there is nothing
abbrev pub IsPart : List ℕ → Part → Type 0
IsPart rest (Content b) = rest ≡ twice b ++ drop (length (twice b)) rest
IsPart rest Close = (rest ≡ 39 ∷ drop 1 rest) × (begins (λ c. c == 39) (drop 1 rest) ≡ false)
IsPart rest Missing = rest ≡ []

-- the class of a text is that of `a`, of `0`, of a quote, or of nothing
abbrev pub IsOfClass : Class → List ℕ → Type 0
IsOfClass OfWord text = class_at text ≡ class_at (97 ∷ [])
IsOfClass OfNumber text = class_at text ≡ class_at (48 ∷ [])
IsOfClass OfText text = class_at text ≡ class_at (39 ∷ [])
IsOfClass OfSign text = class_at text ≡ class_at []

-- a text in quotes of so many bytes stands at the front, or no token
abbrev pub IsTextAt : List ℕ → Option ℕ → Type 0
IsTextAt text None = HasNoFirstToken text
IsTextAt text (Some n) = (content : List ℕ) × IsFirstToken text (AText content) n

-- a token of this sort and of so many bytes stands at the front, or none
abbrev pub IsFirstOfSort : List ℕ → Option (Sort × ℕ) → Type 0
IsFirstOfSort text None = HasNoFirstToken text
IsFirstOfSort text (Some t) = (x : Symbol) × IsFirstSymbol text x t.1 × IsOfSort t.0 x

-- the first of the words that the bytes spell
abbrev pub word_among : List Word → List ℕ → Option Word
word_among [] text = None
word_among (w ∷ ws) text = if pointwise ◌==◌ (spelling w) text then Some w else word_among ws text

-- the reserved words
abbrev pub all_words : List Word
all_words = word.Attribute ∷ word.Relation ∷ word.Object ∷ word.From ∷ word.Fd ∷ word.Maximal ∷ word.Int ∷ word.Text ∷ word.Insert ∷ word.Delete ∷ word.Where ∷ word.Load ∷ word.Print ∷ word.Schema ∷ word.Closure ∷ word.Retrieve ∷ word.Explain ∷ word.And ∷ word.Or ∷ word.Not ∷ word.Compare ∷ word.With ∷ word.Window ∷ []

-- the reserved word that the bytes spell
abbrev pub word_at : List ℕ → Option Word
word_at = word_among all_words
