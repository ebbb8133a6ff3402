-- What is drawn for the words of a text.
-- thing: what a word is drawn as, by the word's place: the number of its line and its number in the line, both from 0
use Rattle.std.specs.Prelude.{ℕ, ◌+◌, ◌==◌, if◌then◌else◌, List, [], ◌∷◌, ◌++◌, length, Option, Some, None}
use Rattle.su_draw.specs.declared.things.What.{What}
use Rattle.su_draw.specs.declared.things.What.TheVariants.{Symbol}
use Rattle.su_draw.specs.declared.things.Thing.{Thing}
use Rattle.su_explained.specs.declared.reading.Line.{Line}
use Rattle.su_draw.specs.Drawn.{drawn_as}

-- what stands behind the first sign of equality (61); the whole word, if there is none
abbrev pub behind_sign : List ℕ → List ℕ → List ℕ
behind_sign whole [] = whole
behind_sign whole (b ∷ bs) = if b == 61 then bs else behind_sign whole bs

-- what stands behind the first `=` of a word; the whole word, if it has none
abbrev pub symbol_of : List ℕ → List ℕ
symbol_of word = behind_sign word word

-- what stands before the first `=` of a word: of a cell its attribute
abbrev pub name_of : List ℕ → List ℕ
name_of [] = []
name_of (b ∷ bs) = if b == 61 then [] else b ∷ name_of bs

-- what is written for a word: of a cell its symbol
abbrev pub text_shown : What → List ℕ → List ℕ
text_shown Symbol word = symbol_of word
text_shown _ word = word

-- the thing of a word, if it is drawn
abbrev pub thing_of : Option What → ℕ → ℕ → List ℕ → List Thing
thing_of None i k word = []
thing_of (Some what) i k word = record { line = i; word = k; what = what; text = text_shown what word } ∷ []

-- the things of the words from this one on
abbrev pub things_behind : Line → ℕ → ℕ → List (List ℕ) → List Thing
things_behind line i k [] = []
things_behind line i k (word ∷ words) = thing_of (drawn_as line.kind (length line.words) k word) i k word ++ things_behind line i (k + 1) words

-- what the words of line i are drawn as
abbrev pub things_in : ℕ → Line → List Thing
things_in i line = things_behind line i 0 line.words

-- the things of the lines from this one on
abbrev pub things_from : ℕ → List Line → List Thing
things_from i [] = []
things_from i (line ∷ lines) = things_in i line ++ things_from (i + 1) lines

-- the things that are drawn for a text
abbrev pub things_of : List Line → List Thing
things_of lines = things_from 0 lines
