-- How a file is cut into statements.
-- part: a text in quotes, a comment, or one byte else; piece: the parts up to a `;` or to the end of the file;
-- statement: a piece that is more than white space and comments. "From s to r": s is that, and then r.
use Rattle.std.specs.Prelude.{Option, Some, None, ◌≡◌, ◌≤◌, ℕ, ◌+◌, Bool, true, false, not, ◌||◌, ◌==◌, if◌then◌else◌, nat_eq, List, [], ◌∷◌, ◌++◌, length, drop}
use Rattle.std.specs.List.{list_all, starts_with}
use Rattle.su_lex.specs.Blanks.{begins_comment, Comment, Gap}
use Rattle.su_lex.specs.declared.spans.Span.{Span}

-- the byte order mark
abbrev pub mark : List ℕ
mark = 239 ∷ 187 ∷ 191 ∷ []

-- the file without one byte order mark at its front
abbrev pub after_mark : List ℕ → List ℕ
after_mark file = if starts_with nat_eq file mark then drop 3 file else file

-- no byte is a quote
abbrev pub has_no_quote : List ℕ → Bool
has_no_quote = list_all (λ b. not (b == 39))

-- a byte that is no `;` and begins no text
abbrev pub is_plain : ℕ → Bool
is_plain b = not (b == 59 || b == 39)

-- one part from s to r
pub data Part : List ℕ → List ℕ → Type 0 where
  byte : (b : ℕ) (s r : List ℕ) → s ≡ b ∷ r → is_plain b ≡ true → begins_comment s ≡ false → Part s r
  -- two quotes within a text end it and begin the next one
  text : (content s r : List ℕ) → s ≡ 39 ∷ (content ++ 39 ∷ r) → has_no_quote content ≡ true → Part s r
  unclosed : (content s r : List ℕ) → s ≡ 39 ∷ content → has_no_quote content ≡ true → r ≡ [] → Part s r
  comment : (s r : List ℕ) → Comment s r → Part s r

-- parts from s to r, as many as there are
pub data Parts : List ℕ → List ℕ → Type 0 where
  none : (s r : List ℕ) → s ≡ r → Parts s r
  more : (s t r : List ℕ) → Part s t → Parts t r → Parts s r

-- The statement that the piece from s to r is, if any. It stands in a file of this many bytes, whose end s is.
abbrev pub Statement : ℕ → List ℕ → List ℕ → Option Span → Type 0
Statement total s r None = Gap s r
Statement total s r (Some span) = ¬ (Gap s r) × (span.start + length s ≡ total) × (span.end + length r ≡ total)

-- a span before others, if there is one
abbrev pub added : Option Span → List Span → List Span
added None spans = spans
added (Some span) spans = span ∷ spans

-- the statements of s, the end of a file of this many bytes
pub data PiecesAt : ℕ → List ℕ → List Span → Type 0 where
  last : (total : ℕ) (s : List ℕ) (here : Option Span) (spans : List Span) → Parts s [] → Statement total s [] here → spans ≡ added here [] → PiecesAt total s spans
  cut : (total : ℕ) (s r : List ℕ) (here : Option Span) (more spans : List Span) → Parts s (59 ∷ r) → Statement total s (59 ∷ r) here → PiecesAt total r more → spans ≡ added here more → PiecesAt total s spans

-- the statements of a file
abbrev pub Pieces : List ℕ → List Span → Type 0
Pieces file spans = PiecesAt (length file) (after_mark file) spans

-- the span lies within the file
pub record LiesWithin (file : List ℕ) (span : Span) : Type 0 where
  pub ordered : span.start ≤ span.end
  pub within : span.end ≤ length file
