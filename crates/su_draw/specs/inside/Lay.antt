-- Where the things of an explanation stand, as numbers.
-- x, y: from the left and from the top; each sum stops at the limit; rows: the lines behind a term's own
-- No public contract cites this module.
use Rattle.std.specs.Prelude.{◌≡◌, ℕ, ◌+◌, ◌-◌, ◌==◌, ◌&&◌, ◌||◌, Bool, true, false, not, nat_lt, max, if◌then◌else◌, List, [], ◌∷◌, ◌++◌, Option, Some, None, drop, take, map, slice_get, ⊤}
use Rattle.std.specs.List.{list_any}
use Rattle.std.specs.Str.{bytes_eq}
use Rattle.su_explained.specs.declared.kinds.Kind.{Kind}
use Rattle.su_explained.specs.declared.kinds.Kind.TheVariants.{Term, Kept, Fold as FoldLine, Sources, Count}
use Rattle.su_explained.specs.declared.reading.Line.{Line}
use Rattle.su_explained.specs.Checks.{is_decimal}
use Rattle.su_explained.specs.Numbers.{number_in}
use Rattle.su_draw.specs.declared.cells.Cell.{Cell}
use Rattle.su_draw.specs.declared.tables.Column.{Column}
use Rattle.su_draw.specs.declared.tables.Table.{Table}
use Rattle.su_draw.specs.declared.things.Thing.{Thing}
use Rattle.su_draw.specs.declared.things.What.{What}
use Rattle.su_draw.specs.declared.things.What.TheVariants.{Row, Symbol, Fold, Source, Member}
use Rattle.su_draw.specs.declared.shapes.Position.{Position}
use Rattle.su_draw.specs.declared.shapes.Shape.{Shape}
use Rattle.su_draw.specs.declared.shapes.Help.{Help}
use Rattle.su_draw.specs.declared.shapes.Help.TheVariants.{Heading}
use Rattle.su_draw.specs.declared.explaining.Layout.{Layout}
use Rattle.su_draw.specs.declared.ears.Edge.{Edge}
use Rattle.su_draw.specs.Widths.{plus, shown_width}
use Rattle.su_draw.specs.Ears.{ring_of}
use Rattle.su_draw.specs.Things.{name_of, symbol_of}
use Rattle.su_draw.specs.Terms.{words_at, is_term, is_row, is_light, tells_fold, or_else, word_in, term_at, terms_from}

-- how far a line stands below the one before it
abbrev pub step_to : Kind → ℕ
step_to Kept = 0
step_to FoldLine = 0
step_to Sources = 0
step_to Term = 40
step_to Count = 40
step_to _ = 20

-- the room below a line: the names of columns stand below a term's
abbrev pub room_below : Kind → ℕ
room_below Term = 20
room_below _ = 0

-- how high each line stands, below this
abbrev pub heights_from : ℕ → List Line → List ℕ
heights_from y [] = []
heights_from y (line ∷ lines) = plus y (step_to line.kind) ∷ heights_from (plus (plus y (step_to line.kind)) (room_below line.kind)) lines

-- how high line i stands
abbrev pub height_in : List ℕ → ℕ → ℕ
height_in heights i = or_else 0 (slice_get heights i)

-- how high a row of a term stands
abbrev pub row_height : List ℕ → ℕ → ℕ → ℕ
row_height heights term row = height_in (drop (term + 1) heights) row

-- of each line whether it is a row that isn't kept
abbrev pub lights_from : List Line → List Bool
lights_from [] = []
lights_from (line ∷ lines) = is_light line lines ∷ lights_from lines

abbrev pub or_false : Option Bool → Bool
or_false None = false
or_false (Some b) = b

-- a cell as its attribute and its symbol
abbrev pub cell_of : List ℕ → Cell
cell_of word = record { name = name_of word; symbol = symbol_of word }

-- the cells of a line; only rows have some
abbrev pub row_cells : Line → List Cell
row_cells line = if is_row line.kind then map cell_of (drop 6 line.words) else []

-- the cells of these lines, up to the next term
abbrev pub cells_from : List Line → List Cell
cells_from [] = []
cells_from (line ∷ lines) = if is_term line.kind then [] else row_cells line ++ cells_from lines

-- how many cells have this symbol
abbrev pub count_from : ℕ → List Cell → List ℕ → ℕ
count_from n [] symbol = n
count_from n (c ∷ cs) symbol = count_from (if bytes_eq c.symbol symbol then n + 1 else n) cs symbol

-- the symbols of several cells: each at the last cell but one that has it
abbrev pub classes_from : List Cell → List (List ℕ)
classes_from [] = []
classes_from (c ∷ cs) = if count_from 0 cs c.symbol == 1 then c.symbol ∷ classes_from cs else classes_from cs

-- the place of a symbol among these, counted from 1; 0 where it is none
abbrev pub mark_from : ℕ → List (List ℕ) → List ℕ → ℕ
mark_from n [] symbol = 0
mark_from n (s ∷ ss) symbol = if bytes_eq s symbol then n + 1 else mark_from (n + 1) ss symbol

-- how far behind the first of these words the next one begins
abbrev pub offset_from : ℕ → List (List ℕ) → ℕ
offset_from x [] = x
offset_from x (w ∷ ws) = offset_from (plus (plus x (shown_width w)) 8) ws

abbrev pub offset_of : List (List ℕ) → ℕ → ℕ
offset_of words k = offset_from 0 (take k words)

-- how wide word k of the rows is, at most, with a gap
abbrev pub front_from : ℕ → List Line → ℕ → ℕ
front_from w [] k = w
front_from w (line ∷ lines) k = if is_row line.kind then front_from (max w (plus (shown_width (word_in line.words k)) 16)) lines k else w

-- the names with one more, if it isn't there
abbrev pub name_added : List (List ℕ) → List ℕ → List (List ℕ)
name_added names name = if list_any (λ n. bytes_eq n name) names then names else names ++ name ∷ []

-- the attributes that these cells add
abbrev pub names_with : List (List ℕ) → List Cell → List (List ℕ)
names_with names [] = names
names_with names (c ∷ cs) = names_with (name_added names c.name) cs

-- the room of a cell: for its symbol and a mark, and for the attribute above it
abbrev pub room_of : Cell → ℕ
room_of c = plus (max (shown_width c.name) (plus (shown_width c.symbol) 16)) 16

-- the room of the widest cell of an attribute
abbrev pub room_from : ℕ → List Cell → List ℕ → ℕ
room_from w [] name = w
room_from w (c ∷ cs) name = room_from (if bytes_eq c.name name then max w (room_of c) else w) cs name

abbrev pub column_of : List Cell → List ℕ → Column
column_of cells name = record { name = name; width = room_from 0 cells name }

abbrev pub columns_of : List Cell → List Column
columns_of cells = map (column_of cells) (names_with [] cells)

-- where the column of an attribute begins; behind all columns, where it has none
abbrev pub column_from : ℕ → List Column → List ℕ → ℕ
column_from x [] name = x
column_from x (c ∷ cs) name = if bytes_eq c.name name then x else column_from (plus x c.width) cs name

-- where the columns end
abbrev pub end_from : ℕ → List Column → ℕ
end_from x [] = x
end_from x (c ∷ cs) = end_from (plus x c.width) cs

-- word k of a fold is an arrow: it tells another row than the one whose place it has
abbrev pub is_arrow : ℕ → List ℕ → Bool
is_arrow k word = not (nat_lt k 3 || is_decimal (k - 3) word)

-- where the lane behind those of these words is, the first of which is word k of a fold
abbrev pub lane_from : ℕ → ℕ → List (List ℕ) → ℕ
lane_from x k [] = x
lane_from x k (w ∷ ws) = lane_from (if is_arrow k w then plus x 18 else x) (k + 1) ws

-- the words of the fold that is told next
abbrev pub fold_next : List Line → List (List ℕ)
fold_next [] = []
fold_next (line ∷ lines) = if tells_fold line.kind then line.words else fold_next lines

-- the table of a term whose rows these lines begin with
abbrev pub table_on : ℕ → ℕ → List Line → Table
table_on left term rows =
    let variable = plus left (front_from 0 rows 3) in
    let object = plus variable (front_from 0 rows 4) in
    let first = plus object (front_from 0 rows 5) in
    let columns = columns_of (cells_from rows) in
    let right = end_from first columns in
    record { term = term; variable = variable; object = object; first = first; columns = columns; right = right; sources = plus (lane_from (plus right 24) 0 (fold_next rows)) 12; classes = classes_from (cells_from rows) }

-- the table of the term that begins with this line
abbrev pub table_of : ℕ → List Line → ℕ → Table
table_of left lines term = table_on left term (drop (term + 1) lines)

-- a text that is no symbol
abbrev pub text_at : ℕ → ℕ → Bool → Position
text_at x y light = record { x = x; y = y; edge = 0; lane = 0; to = 0; mark = 0; light = light }

-- where word k of a row begins
abbrev pub row_x : ℕ → Table → ℕ → List ℕ → ℕ
row_x left table k word = if nat_lt k 4 then left else (if k == 4 then table.variable else (if k == 5 then table.object else column_from table.first table.columns (name_of word)))

-- the mark of word k of a row
abbrev pub row_mark : Table → ℕ → List ℕ → ℕ
row_mark table k word = if nat_lt k 6 then 0 else mark_from 0 table.classes (symbol_of word)

-- a word of a row
abbrev pub in_row : ℕ → Table → ℕ → List (List ℕ) → ℕ → Bool → Position
in_row left table k words y light =
    record { x = row_x left table k (word_in words k); y = y; edge = 0; lane = 0; to = 0; mark = row_mark table k (word_in words k); light = light }

-- an arrow of a fold
abbrev pub fold_place : Table → List ℕ → ℕ → List (List ℕ) → Position
fold_place table heights k words =
    record { x = 0; y = row_height heights table.term (k - 3); edge = plus table.right 8; lane = lane_from (plus table.right 24) 0 (take k words); to = row_height heights table.term (or_else 0 (number_in (word_in words k))); mark = 0; light = true }

-- the place among these lines of the row whose number this word is; behind them, where there is none
abbrev pub row_from : ℕ → List Line → List ℕ → ℕ
row_from n [] word = n
row_from n (line ∷ lines) word = if is_row line.kind && bytes_eq (word_in line.words 3) word then n else row_from (n + 1) lines word

-- a source beside its row
abbrev pub source_place : Table → List Line → List ℕ → ℕ → List (List ℕ) → Position
source_place table lines heights k words =
    text_at (plus table.sources (offset_of words k - offset_of words 4)) (row_height heights table.term (row_from 0 (drop (table.term + 1) lines) (word_in words 3))) false

-- where a thing of this kind stands: a row's number and symbols in their row, a fold's arrow, a source; of others nothing is said
abbrev pub StandsAs : What → List Line → List ℕ → List Bool → ℕ → Table → Thing → Position → Type 0
StandsAs Row lines heights lights left table t p = p ≡ in_row left table t.word (words_at lines t.line) (height_in heights t.line) (or_false (slice_get lights t.line))
StandsAs Symbol lines heights lights left table t p = p ≡ in_row left table t.word (words_at lines t.line) (height_in heights t.line) (or_false (slice_get lights t.line))
StandsAs Fold lines heights lights left table t p = p ≡ fold_place table heights t.word (words_at lines t.line)
StandsAs Source lines heights lights left table t p = p ≡ source_place table lines heights t.word (words_at lines t.line)
StandsAs _ lines heights lights left table t p = ⊤

-- the name of a column over it, at this height
abbrev pub heading_over : ℕ → Table → List ℕ → Help
heading_over y table name = Heading (column_from table.first table.columns name) y name

-- the names of a table's columns, each over its column
abbrev pub headings_over : ℕ → Table → List Help
headings_over y table = map (λ c. heading_over y table c.name) table.columns

-- the names of the columns of the terms that begin with these lines, or with the first line of all; i: the number of the first of these
abbrev pub headings_from : ℕ → List ℕ → List Line → ℕ → List Line → List Help
headings_from left heights lines i [] = []
headings_from left heights lines i (line ∷ rest) =
    (if (i == 0) || is_term line.kind then headings_over (plus (height_in heights i) 20) (table_of left lines i) else []) ++ headings_from left heights lines (i + 1) rest

-- the layout is that of these lines
pub record IsLayoutOf (lines : List Line) (layout : Layout) : Type 0 where
  pub of_lines : layout.lines.now ≡ lines
  pub terms : layout.terms ≡ terms_from 0 0 lines
  pub heights : layout.heights ≡ heights_from 10 lines
  pub lights : layout.lights ≡ lights_from lines

-- the shape stands where the layout has it
abbrev pub IsLaid : Layout → Shape → Type 0
IsLaid l s = StandsAs s.thing.what l.lines.now l.heights l.lights l.left (table_of l.left l.lines.now (or_else 0 (slice_get l.terms s.thing.line))) s.thing s.place

-- a dot has the mark of its line
abbrev pub IsRinged : List Edge → Shape → Type 0
IsRinged core s = s.thing.what ≡ Member → s.place.mark ≡ ring_of core s.thing.line

-- the shape stands where the lines have it, with so much room at the left
abbrev pub IsLaidOver : List Line → ℕ → Shape → Type 0
IsLaidOver lines left s = StandsAs s.thing.what lines (heights_from 10 lines) (lights_from lines) left (table_of left lines (term_at lines s.thing.line)) s.thing s.place
