-- A text as lines of words.
-- word: what stands up to a blank or the line's end; from a quote to the next one neither ends it
-- line: its number, as an editor counts from 1, and its words; number: a line feed between quotes is counted too
-- cut: what has been cut of a text: the lines that have ended, and the line and the word that have begun
use Rattle.std.specs.Prelude.{ℕ, ◌+◌, ◌==◌, ◌||◌, not, if◌then◌else◌, false, List, [], ◌∷◌, ◌++◌, flat_map}
use Rattle.std.specs.List.{join_by}
use Rattle.su_explained.specs.declared.pieces.Cut.{Cut}

-- before the first byte, on line 1
abbrev pub nothing_cut : Cut
nothing_cut = record { pieces = []; number = 1; words = []; word = []; next = 1; quoted = false }

-- the word that has begun ends
abbrev pub word_ended : Cut → Cut
word_ended c = record c { words = c.words ++ c.word ∷ []; word = [] }

-- the line that has begun ends, with its last word
abbrev pub line_ended : Cut → Cut
line_ended c = record c { pieces = c.pieces ++ record { number = c.number; words = c.words ++ c.word ∷ [] } ∷ []; number = c.next; words = []; word = [] }

-- one more byte of the word that has begun; 39 is a quote
abbrev pub grown : Cut → ℕ → Cut
grown c b = record c { word = c.word ++ b ∷ []; quoted = (if b == 39 then not c.quoted else c.quoted) }

-- the line feeds are counted
abbrev pub counted : Cut → ℕ → Cut
counted c b = record c { next = (if b == 10 then c.next + 1 else c.next) }

-- the next byte
abbrev pub with_byte : Cut → ℕ → Cut
with_byte c b =
    if c.quoted || not (b == 10 || b == 32) then grown (counted c b) b else
    (if b == 10 then line_ended (counted c b) else word_ended (counted c b))

-- the bytes, one after another
abbrev pub cut_on : Cut → List ℕ → Cut
cut_on c [] = c
cut_on c (b ∷ bs) = cut_on (with_byte c b) bs

-- the text cut into lines of words
abbrev pub cut_of : List ℕ → Cut
cut_of text = cut_on nothing_cut text

-- the words of a line that has ended, blanks between them, and a line feed
abbrev pub line_text : List (List ℕ) → List ℕ
line_text [] = []
line_text (w ∷ ws) = join_by (λ x. x) (32 ∷ []) (w ∷ ws) ++ 10 ∷ []

-- the text that has been cut
abbrev pub text_of : Cut → List ℕ
text_of c = flat_map (λ p. line_text p.words) c.pieces ++ flat_map (λ w. w ++ 32 ∷ []) c.words ++ c.word
