-- That each word that is drawn stands in the picture exactly once.
-- Rows, symbols, sources, folds and covers, and of a schema attributes, objects and what belongs to what, are words of the text; so are the labels.
-- thing: what is drawn of one word, with the number of its line and of the word in it
use Rattle.std.specs.Prelude.{◌≡◌, ℕ, ◌==◌, ◌&&◌, Bool, List, [], length, filter, map, slice_get, Option, Some, None}
use Rattle.su_draw.specs.declared.things.Thing.{Thing}
use Rattle.su_draw.specs.declared.shapes.Shape.{Shape}
use Rattle.su_explained.specs.declared.reading.Line.{Line}
use Rattle.su_draw.specs.Things.{thing_of}
use Rattle.su_draw.specs.Drawn.{drawn_as}

-- the thing stands for this word of this line
abbrev pub stands_for : ℕ → ℕ → Thing → Bool
stands_for i k thing = (thing.line == i) && (thing.word == k)

-- the thing of a word of a line, if there is such a word and it is drawn
abbrev pub thing_of_word : Line → ℕ → ℕ → Option (List ℕ) → List Thing
thing_of_word line i k None = []
thing_of_word line i k (Some word) = thing_of (drawn_as line.kind (length line.words) k word) i k word

-- what word k of line i is drawn as, if it is
abbrev pub thing_at : Option Line → ℕ → ℕ → List Thing
thing_at None i k = []
thing_at (Some line) i k = thing_of_word line i k (slice_get line.words k)

-- for each word of the text that is drawn there is exactly one thing, which shows it, and for others there is none
abbrev pub StandOnce : List Line → List Thing → Type 0
StandOnce lines things = (i k : ℕ) → filter (stands_for i k) things ≡ thing_at (slice_get lines i) i k

-- the things that stand in a picture
abbrev pub things_in_shapes : List Shape → List Thing
things_in_shapes shapes = map (λ s. s.thing) shapes
