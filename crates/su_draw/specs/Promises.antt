-- What the places of a picture promise.
-- place: x and y of a text's beginning; an arrow goes from height y by its lane to height `to`; mark: a number beside the symbols of one class, 0 for none
use Rattle.std.specs.Prelude.{◌≡◌, ◌≢◌, ◌<◌, ◌≤◌, ◌^◌, ◌⊎◌, ℕ, ◌+◌, ◌-◌, true, List, Some, Contains, slice_get, drop}
use Rattle.su_explained.specs.declared.reading.Line.{Line}
use Rattle.su_explained.specs.Checks.{is_decimal}
use Rattle.su_draw.specs.declared.things.What.TheVariants.{Row, Symbol, Fold, Source, Member}
use Rattle.su_draw.specs.declared.shapes.Shape.{Shape}
use Rattle.su_draw.specs.declared.shapes.Help.{Help}
use Rattle.su_draw.specs.declared.shapes.Help.TheVariants.{Heading}
use Rattle.su_draw.specs.declared.ears.Edge.{Edge}
use Rattle.su_draw.specs.Ears.{edges_from, IsCoreOf, ring_of}
use Rattle.su_draw.specs.Things.{name_of}
use Rattle.su_draw.specs.Widths.{shown_width}
use Rattle.su_draw.specs.Terms.{word_in, words_at, term_at, is_light}

-- the greatest number of a place: what lies farther is drawn there
abbrev pub limit : ℕ
limit = 2 ^ 32 - 1

-- the shape is the number of this row of the term of line i
pub record IsRowOf (lines : List Line) (i row : ℕ) (s : Shape) : Type 0 where
  pub is : s.thing.what ≡ Row
  pub of_term : term_at lines s.thing.line ≡ term_at lines i
  pub tells : is_decimal row s.thing.text ≡ true

-- an arrow begins at the row whose place it has among the rows, and ends at the row that its word tells
pub record Joins (lines : List Line) (shapes : List Shape) (arrow : Shape) : Type 0 where
  pub begins : (s : Shape) → Contains shapes s → IsRowOf lines arrow.thing.line (arrow.thing.word - 3) s → arrow.place.y ≡ s.place.y
  pub ends : (row : ℕ) (s : Shape) → Contains shapes s → is_decimal row arrow.thing.text ≡ true → IsRowOf lines arrow.thing.line row s → arrow.place.to ≡ s.place.y

-- each arrow of a fold begins at its row and ends at the row that it folds to
abbrev pub ArrowsJoin : List Line → List Shape → Type 0
ArrowsJoin lines shapes = (arrow : Shape) → Contains shapes arrow → arrow.thing.what ≡ Fold → Joins lines shapes arrow

-- two symbols of one term
pub record AreOfOneTerm (lines : List Line) (shapes : List Shape) (a b : Shape) : Type 0 where
  pub first : Contains shapes a
  pub second : Contains shapes b
  pub first_is : a.thing.what ≡ Symbol
  pub second_is : b.thing.what ≡ Symbol
  pub of_term : term_at lines a.thing.line ≡ term_at lines b.thing.line

-- in a term the cells of one class, those with one symbol, have one mark, and no two classes have the same
abbrev pub MarksTell : List Line → List Shape → Type 0
MarksTell lines shapes =
    (a b : Shape) → AreOfOneTerm lines shapes a b → (a.thing.text ≡ b.thing.text → a.place.mark ≡ b.place.mark) × (0 < a.place.mark → a.place.mark ≡ b.place.mark → a.thing.text ≡ b.thing.text)

-- two cells of a term with one symbol have a mark; no row stands in the first line of a text
abbrev pub SharedAreMarked : List Line → List Shape → Type 0
SharedAreMarked lines shapes =
    (a b : Shape) → AreOfOneTerm lines shapes a b → 0 < a.thing.line → 0 < b.thing.line → (a.thing.line ≢ b.thing.line) ⊎ (a.thing.word ≢ b.thing.word) → a.thing.text ≡ b.thing.text → 0 < a.place.mark

-- the numbers and the symbols of rows that aren't kept are light, and those of kept rows are dark
abbrev pub KeptAreDark : List Line → List Shape → Type 0
KeptAreDark lines shapes =
    (s : Shape) (line : Line) → Contains shapes s → (s.thing.what ≡ Row) ⊎ (s.thing.what ≡ Symbol) → slice_get lines s.thing.line ≡ Some line → s.place.light ≡ is_light line (drop (s.thing.line + 1) lines)

-- no two arrows of a fold have one lane, but at the limit
abbrev pub LanesDiffer : List Shape → Type 0
LanesDiffer shapes =
    (a b : Shape) → Contains shapes a → Contains shapes b → a.thing.what ≡ Fold → b.thing.what ≡ Fold → a.thing.line ≡ b.thing.line → a.thing.word < b.thing.word
    → (a.place.lane + 18 ≤ b.place.lane) ⊎ (b.place.lane ≡ limit)

-- a row stands below those before it, but at the limit
abbrev pub RowsDiffer : List Shape → Type 0
RowsDiffer shapes =
    (a b : Shape) → Contains shapes a → Contains shapes b → a.thing.what ≡ Row → b.thing.what ≡ Row → a.thing.line < b.thing.line
    → (a.place.y + 20 ≤ b.place.y) ⊎ (b.place.y ≡ limit)

-- the attribute of a symbol: what its word has before the sign of equality
abbrev pub attribute_at : List Line → Shape → List ℕ
attribute_at lines s = name_of (word_in (words_at lines s.thing.line) s.thing.word)

-- over each symbol stands the name of its attribute, at the beginning of its column; no row stands in the first line of a text
abbrev pub HeadingsStand : List Line → List Help → List Shape → Type 0
HeadingsStand lines helps shapes =
    (s : Shape) → Contains shapes s → s.thing.what ≡ Symbol → 0 < s.thing.line → (y : ℕ) × (y ≤ s.place.y) × Contains helps (Heading s.place.x y (attribute_at lines s))

-- the one ends before the other begins, but at the limit
abbrev pub EndsBefore : Shape → Shape → Type 0
EndsBefore a b = (a.place.x + shown_width a.thing.text ≤ b.place.x) ⊎ (b.place.x ≡ limit)

-- symbols of two attributes of a term don't overlap: of their columns one ends before the other begins
abbrev pub ColumnsDiffer : List Line → List Shape → Type 0
ColumnsDiffer lines shapes =
    (a b : Shape) → AreOfOneTerm lines shapes a b → 0 < a.thing.line → 0 < b.thing.line → attribute_at lines a ≢ attribute_at lines b → EndsBefore a b ⊎ EndsBefore b a

-- a source stands at the height of the row whose number its line tells
abbrev pub SourcesStand : List Line → List Shape → Type 0
SourcesStand lines shapes =
    (s row : Shape) (r : ℕ) → Contains shapes s → Contains shapes row → s.thing.what ≡ Source → IsRowOf lines s.thing.line r row → row.thing.text ≡ word_in (words_at lines s.thing.line) 3 → s.place.y ≡ row.place.y

-- the dots of the objects that stay when ears are taken away are rings, and no others
pub record CoreIsRinged (lines : List Line) (shapes : List Shape) : Type 0 where
  pub core : List Edge
  pub is_core : IsCoreOf (edges_from 0 lines) core
  pub rings : (s : Shape) → Contains shapes s → s.thing.what ≡ Member → s.place.mark ≡ ring_of core s.thing.line

-- what the shapes of a text promise
pub record KeepsPromises (lines : List Line) (shapes : List Shape) : Type 0 where
  pub marks : MarksTell lines shapes
  pub shared : SharedAreMarked lines shapes
  pub kept : KeptAreDark lines shapes
  pub lanes : LanesDiffer shapes
  pub rows : RowsDiffer shapes
  pub columns : ColumnsDiffer lines shapes
