-- Shapes as SVG, one element a line.
-- place: x and y of a text's beginning, on its base line; an arrow goes from its edge sideways to its lane, up or down to another base line, and back
use Rattle.std.specs.Prelude.{ℕ, ◌-◌, ◌==◌, if◌then◌else◌, List, [], ◌∷◌, ◌++◌, codes, decimal}
use Rattle.su_draw.specs.declared.things.What.{What}
use Rattle.su_draw.specs.declared.things.What.TheVariants.{Fold, Cover, Member, Part}
use Rattle.su_draw.specs.declared.shapes.Position.{Position}
use Rattle.su_draw.specs.declared.shapes.Shape.{Shape}
use Rattle.su_draw.specs.Xml.{Attribute, element_text}
use Rattle.su_draw.specs.Cutting.{shown_text}
use Rattle.su_draw.specs.Looks.{word_of, number_attribute, class_of, opacity_of, weight_of}

-- an element on a line of its own
abbrev pub element_line : List ℕ → List Attribute → List ℕ → List ℕ
element_line name attributes inside = element_text name attributes inside ++ codes "\n"

-- the attributes of a text at a place
abbrev pub text_pairs : Position → List ℕ → List ℕ → List ℕ → List Attribute
text_pairs p class opacity weight =
    number_attribute (codes "x") p.x ∷ number_attribute (codes "y") p.y ∷ word_of (codes "class") class ∷ word_of (codes "fill-opacity") opacity ∷ word_of (codes "font-weight") weight ∷ []

-- the attributes of what is drawn as a text
abbrev pub text_attributes : What → Position → List Attribute
text_attributes what p = text_pairs p (class_of p.mark) (opacity_of p.light) (weight_of what p.light)

-- a mark, small and raised behind its symbol
abbrev pub mark_text : ℕ → List ℕ
mark_text mark = if mark == 0 then [] else element_text (codes "tspan") (word_of (codes "dy") (codes "-4") ∷ word_of (codes "font-size") (codes "9") ∷ []) (decimal mark)

-- a text, with its mark
abbrev pub text_line : Shape → List ℕ
text_line s = element_line (codes "text") (text_attributes s.thing.what s.place) (shown_text s.thing.text ++ mark_text s.place.mark)

-- the way of an arrow, which is drawn a little above the base lines, and its head
abbrev pub way_of : Position → List ℕ → List ℕ
way_of p head = codes "M" ++ decimal p.edge ++ codes " " ++ decimal (p.y - 4) ++ codes "H" ++ decimal p.lane ++ codes "V" ++ decimal (p.to - 4) ++ codes "H" ++ decimal p.edge ++ head

-- a line that ends in this head
abbrev pub arrow_line : Position → List ℕ → List ℕ
arrow_line p head = element_line (codes "path") (word_of (codes "d") (way_of p head) ∷ word_of (codes "class") (codes "arrow") ∷ []) []

-- the number of an arrow's row at its lane, above this height
abbrev pub end_line : ℕ → ℕ → ℕ → List ℕ
end_line x y row =
    element_line (codes "text") (number_attribute (codes "x") (x - 2) ∷ number_attribute (codes "y") (y - 6) ∷ word_of (codes "class") (codes "c0") ∷ word_of (codes "text-anchor") (codes "end") ∷ word_of (codes "font-size") (codes "9") ∷ []) (decimal row)

-- the arrow of a row, with its number at both ends
abbrev pub fold_lines : Position → ℕ → List ℕ
fold_lines p row = arrow_line p (codes "m7 -4l-7 4l7 4") ++ end_line p.lane p.y row ++ end_line p.lane p.to row

-- the class of a dot: full without a mark, else a ring
abbrev pub dot_class : ℕ → List ℕ
dot_class mark = if mark == 0 then codes "c0" else codes "ring"

-- a dot: a member of a set
abbrev pub dot_line : Position → List ℕ
dot_line p = element_line (codes "circle") (number_attribute (codes "cx") p.x ∷ number_attribute (codes "cy") p.y ∷ word_of (codes "r") (codes "6") ∷ word_of (codes "class") (dot_class p.mark) ∷ []) []

-- a square: a part of a set
abbrev pub square_line : Position → List ℕ
square_line p =
    element_line (codes "rect") (number_attribute (codes "x") p.x ∷ number_attribute (codes "y") p.y ∷ word_of (codes "width") (codes "12") ∷ word_of (codes "height") (codes "12") ∷ word_of (codes "class") (codes "c0") ∷ []) []

-- what a thing is drawn as: a fold as an arrow, a cover as an arrow and a text, members as dots, parts as squares, all else as text
abbrev pub lines_as : What → Shape → List ℕ
lines_as Fold s = fold_lines s.place (s.thing.word - 3)
lines_as Cover s = arrow_line s.place (codes "m-7 -4l7 4l-7 4") ++ text_line s
lines_as Member s = dot_line s.place
lines_as Part s = square_line s.place
lines_as _ s = text_line s

-- a thing at its place
abbrev pub shape_text : Shape → List ℕ
shape_text s = lines_as s.thing.what s
