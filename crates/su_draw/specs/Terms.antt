-- The term that a line belongs to, its cells, and its kept rows.
-- Lines are counted from 0, and so are the rows of a term, which stand directly behind its line. A cell is a word `ATTRIBUTE=SYMBOL` of a row.
use Rattle.std.specs.Prelude.{◌≡◌, ℕ, ◌+◌, ◌&&◌, ◌||◌, Bool, true, false, not, if◌then◌else◌, List, [], ◌∷◌, Option, Some, None, drop, slice_get}
use Rattle.std.specs.List.{list_any}
use Rattle.std.specs.Str.{bytes_eq}
use Rattle.su_explained.specs.declared.kinds.Kind.{Kind}
use Rattle.su_explained.specs.declared.kinds.Kind.TheVariants.{Term, Row, Kept, Fold}
use Rattle.su_explained.specs.declared.reading.Line.{Line}
use Rattle.su_explained.specs.Checks.{is_decimal}

-- the line begins a term
abbrev pub is_term : Kind → Bool
is_term Term = true
is_term _ = false

-- the line is a row of a term
abbrev pub is_row : Kind → Bool
is_row Row = true
is_row _ = false

-- the line tells a term's kept rows
abbrev pub tells_kept : Kind → Bool
tells_kept Kept = true
tells_kept _ = false

-- the line tells a term's fold
abbrev pub tells_fold : Kind → Bool
tells_fold Fold = true
tells_fold _ = false

-- what is there, or this
abbrev pub or_else : ℕ → Option ℕ → ℕ
or_else n None = n
or_else n (Some m) = m

-- word k of a line; empty where there is none
abbrev pub word_or_none : Option (List ℕ) → List ℕ
word_or_none None = []
word_or_none (Some word) = word

abbrev pub word_in : List (List ℕ) → ℕ → List ℕ
word_in words k = word_or_none (slice_get words k)

-- the words of line i; none where there is no such line
abbrev pub words_or_none : Option Line → List (List ℕ)
words_or_none None = []
words_or_none (Some line) = line.words

abbrev pub words_at : List Line → ℕ → List (List ℕ)
words_at lines i = words_or_none (slice_get lines i)

-- for each line the number of the line that its term begins with; first: the number of the first of these lines, term: that of the term before it
abbrev pub terms_from : ℕ → ℕ → List Line → List ℕ
terms_from term first [] = []
terms_from term first (line ∷ lines) = (if is_term line.kind then first else term) ∷ terms_from (if is_term line.kind then first else term) (first + 1) lines

-- the line that the term of line i begins with
abbrev pub term_at : List Line → ℕ → ℕ
term_at lines i = or_else 0 (slice_get (terms_from 0 0 lines) i)

-- the kept rows that are told next
abbrev pub kept_next : List Line → List (List ℕ)
kept_next [] = []
kept_next (line ∷ lines) = if tells_kept line.kind then drop 3 line.words else kept_next lines

-- the line is a row, and none of the kept ones that are told next behind it
abbrev pub is_light : Line → List Line → Bool
is_light line behind = is_row line.kind && not (list_any (λ row. bytes_eq row (word_in line.words 3)) (kept_next behind))

-- each row of these lines stands behind its term's line by its number and one
abbrev pub RowsStandBehind : List Line → Type 0
RowsStandBehind lines =
    (j r : ℕ) (line : Line) → slice_get lines j ≡ Some line → is_row line.kind ≡ true → is_decimal r (word_in line.words 3) ≡ true → j ≡ term_at lines j + 1 + r

-- the lines without those of rows that aren't kept, and of folds
abbrev pub kept_lines : List Line → List Line
kept_lines [] = []
kept_lines (line ∷ lines) = if is_light line lines || tells_fold line.kind then kept_lines lines else line ∷ kept_lines lines
