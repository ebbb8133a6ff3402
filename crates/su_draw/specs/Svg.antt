-- A picture as SVG, one element a line.
-- help: what helps the eye and stands for no word; ground: what is under all of it
use Rattle.std.specs.Prelude.{ℕ, List, [], ◌∷◌, ◌++◌, codes, decimal, flat_map}
use Rattle.su_draw.specs.declared.shapes.Help.{Help}
use Rattle.su_draw.specs.declared.shapes.Help.TheVariants.{Heading, Band, Rule}
use Rattle.su_draw.specs.declared.shapes.Note.{Note}
use Rattle.su_draw.specs.declared.shapes.Picture.{Picture}
use Rattle.su_draw.specs.Xml.{Attribute}
use Rattle.su_draw.specs.EscapedBytes.{escaped}
use Rattle.su_draw.specs.Cutting.{shown_text}
use Rattle.su_draw.specs.Looks.{word_of, number_attribute, style_text}
use Rattle.su_draw.specs.Shapes.{element_line, shape_text}
use Rattle.su_draw.specs.Signs.{text_of}

-- the name above a column
abbrev pub heading_line : ℕ → ℕ → List ℕ → List ℕ
heading_line x y text =
    element_line (codes "text") (number_attribute (codes "x") x ∷ number_attribute (codes "y") y ∷ word_of (codes "class") (codes "c0") ∷ word_of (codes "text-decoration") (codes "underline") ∷ []) (shown_text text)

-- a line of the legend
abbrev pub note_text : Note → List ℕ
note_text n =
    element_line (codes "text") (number_attribute (codes "x") n.x ∷ number_attribute (codes "y") n.y ∷ word_of (codes "class") (codes "c0") ∷ word_of (codes "font-size") (codes "11") ∷ []) (escaped (text_of n.sign))

-- the grey behind a kept row
abbrev pub band_line : ℕ → ℕ → ℕ → List ℕ
band_line x y width =
    element_line (codes "rect") (number_attribute (codes "x") x ∷ number_attribute (codes "y") y ∷ number_attribute (codes "width") width ∷ word_of (codes "height") (codes "20") ∷ word_of (codes "class") (codes "band") ∷ []) []

-- a line from one place to another
abbrev pub rule_line : ℕ → ℕ → ℕ → ℕ → List ℕ
rule_line x y to_x to_y =
    element_line (codes "line") (number_attribute (codes "x1") x ∷ number_attribute (codes "y1") y ∷ number_attribute (codes "x2") to_x ∷ number_attribute (codes "y2") to_y ∷ word_of (codes "class") (codes "rule") ∷ []) []

-- what helps the eye and stands for no word: headings, bands, lines
abbrev pub help_text : Help → List ℕ
help_text (Heading x y text) = heading_line x y text
help_text (Band x y width) = band_line x y width
help_text (Rule x y to_x to_y) = rule_line x y to_x to_y

-- the attributes of the picture
abbrev pub svg_attributes : Picture → List Attribute
svg_attributes p =
    word_of (codes "xmlns") (codes "http://www.w3.org/2000/svg") ∷ number_attribute (codes "width") p.width ∷ number_attribute (codes "height") p.height ∷ word_of (codes "viewBox") (codes "0 0 " ++ decimal p.width ++ codes " " ++ decimal p.height)
    ∷ word_of (codes "role") (codes "img") ∷ word_of (codes "font-family") (codes "monospace") ∷ word_of (codes "font-size") (codes "13") ∷ word_of (codes "style") (codes "white-space:pre") ∷ []

-- the ground
abbrev pub ground_line : List ℕ
ground_line = element_line (codes "rect") (word_of (codes "width") (codes "100%") ∷ word_of (codes "height") (codes "100%") ∷ word_of (codes "class") (codes "ground") ∷ []) []

-- the title, the description and the style
abbrev pub front_lines : Picture → List ℕ
front_lines p = element_line (codes "title") [] (escaped p.title) ++ (element_line (codes "desc") [] (escaped p.about) ++ element_line (codes "style") [] style_text)

-- the front, the ground, the helps, the legend and the shapes
abbrev pub svg_inside : Picture → List ℕ
svg_inside p = codes "\n" ++ (front_lines p ++ (ground_line ++ (flat_map help_text p.helps ++ (flat_map note_text p.legend ++ flat_map shape_text p.shapes))))

-- the whole picture
abbrev pub svg_text : Picture → List ℕ
svg_text p = element_line (codes "svg") (svg_attributes p) (svg_inside p)
