-- The text of a picture is a document.
use Rattle.std.proofs.Common.{◌≡◌, ℕ, Bool, true, false, cond, List, [], ◌∷◌, ◌++◌, flat_map, refl, sym, ◌∙◌, subst, append_assoc, append-nil}
use Rattle.std.specs.List.{list_all}
use Rattle.std.proofs.lemmas.Bool.{and_parts}
use Rattle.std.specs.Prelude.{◌==◌, ◌%◌, ◌-◌, codes, decimal}
use Rattle.su_draw.specs.declared.things.What.{What}
use Rattle.su_draw.specs.declared.things.What.TheVariants.{Label, Row, Symbol, Fold, Source, Cover, Attribute as Column, Object, Member, Part}
use Rattle.su_draw.specs.declared.shapes.Position.{Position}
use Rattle.su_draw.specs.declared.shapes.Shape.{Shape}
use Rattle.su_draw.specs.declared.shapes.Help.{Help}
use Rattle.su_draw.specs.declared.shapes.Help.TheVariants.{Heading, Band, Rule}
use Rattle.su_draw.specs.declared.shapes.Note.{Note}
use Rattle.su_draw.specs.declared.shapes.Picture.{Picture}
use Rattle.su_draw.specs.EscapedBytes.{none_begun, escaped}
use Rattle.su_draw.specs.Xml.{is_plain, element_text, IsContent, nothing, plain, element, IsDocument}
use Rattle.su_draw.specs.Characters.{char_text}
use Rattle.su_draw.specs.Cutting.{front_from, cut_text, is_long, shown_text}
use Rattle.su_draw.specs.Svg.{help_text, note_text, svg_attributes, ground_line, front_lines, svg_inside, svg_text}
use Rattle.su_draw.specs.Shapes.{element_line, mark_text, text_attributes, text_line, way_of, arrow_line, end_line, fold_lines, dot_class, dot_line, square_line, lines_as, shape_text}
use Rattle.su_draw.specs.Signs.{text_of}
use Rattle.su_draw.specs.Looks.{word_of, number_attribute, class_of, opacity_of, weight_of, style_text}
use Rattle.su_draw.proofs.Plain.{ArePlain, plain-append, plain-if, decimal-plain, char_text-content, escaped_on-content, escaped-content, element_line-content}

class-plain : (n : ℕ) → ArePlain (class_of n)
class-plain n =
    plain-if (n == 0) _ _ refl (plain-if (n % 7 == 1) _ _ refl (plain-if (n % 7 == 2) _ _ refl (plain-if (n % 7 == 3) _ _ refl (plain-if (n % 7 == 4) _ _ refl (plain-if (n % 7 == 5) _ _ refl (plain-if (n % 7 == 6) _ _ refl refl))))))

opacity-plain : (light : Bool) → ArePlain (opacity_of light)
opacity-plain true = refl
opacity-plain false = refl

weight-plain : (what : What) (light : Bool) → ArePlain (weight_of what light)
weight-plain Row false = refl
weight-plain Row true = refl
weight-plain Symbol false = refl
weight-plain Symbol true = refl
weight-plain Label light = refl
weight-plain Fold light = refl
weight-plain Source light = refl
weight-plain Cover light = refl
weight-plain Column light = refl
weight-plain Object light = refl
weight-plain Member light = refl
weight-plain Part light = refl

way-plain : (p : Position) (head : List ℕ) → ArePlain head → ArePlain (way_of p head)
way-plain p head h =
    let a : List ℕ = codes "M" ++ decimal p.edge in
    let b : List ℕ = a ++ codes " " in
    let c : List ℕ = b ++ decimal (p.y - 4) in
    let d : List ℕ = c ++ codes "H" in
    let e : List ℕ = d ++ decimal p.lane in
    let f : List ℕ = e ++ codes "V" in
    let g : List ℕ = f ++ decimal (p.to - 4) in
    let i : List ℕ = g ++ codes "H" in
    let j : List ℕ = i ++ decimal p.edge in
    let in_a : ArePlain a = plain-append (codes "M") (decimal p.edge) refl (decimal-plain p.edge) in
    let in_c : ArePlain c = plain-append b (decimal (p.y - 4)) (plain-append a (codes " ") in_a refl) (decimal-plain (p.y - 4)) in
    let in_e : ArePlain e = plain-append d (decimal p.lane) (plain-append c (codes "H") in_c refl) (decimal-plain p.lane) in
    let in_g : ArePlain g = plain-append f (decimal (p.to - 4)) (plain-append e (codes "V") in_e refl) (decimal-plain (p.to - 4)) in
    let in_j : ArePlain j = plain-append i (decimal p.edge) (plain-append g (codes "H") in_g refl) (decimal-plain p.edge) in
    plain-append j head in_j h

plain-content : (t rest : List ℕ) → ArePlain t → IsContent rest → IsContent (t ++ rest)
plain-content [] rest h r = r
plain-content (c ∷ t) rest h r = let parts = and_parts (is_plain c) (list_all is_plain t) h in plain c (t ++ rest) parts.0 (plain-content t rest parts.1 r)

-- content that goes on
escaped-on : (bs rest : List ℕ) → IsContent rest → IsContent (escaped bs ++ rest)
escaped-on bs rest r = escaped_on-content none_begun bs rest r

cut_text-content : (text rest : List ℕ) → IsContent rest → IsContent (cut_text text ++ rest)
cut_text-content text rest r =
    let P : List ℕ → Type 0 = λ t. IsContent t in
    let title : List ℕ = element_text (codes "title") [] (escaped text) in
    let front : List ℕ = escaped (front_from 11 text) in
    subst P (sym (append_assoc title (front ++ char_text 8230) rest))
    (element (codes "title") [] (escaped text) ((front ++ char_text 8230) ++ rest) refl tt (escaped-content text)
    (subst P (sym (append_assoc front (char_text 8230) rest)) (escaped-on (front_from 11 text) (char_text 8230 ++ rest) (char_text-content 8230 rest r))))

shown-if : (b : Bool) (text rest : List ℕ) → IsContent rest → IsContent (cond b (cut_text text) (escaped text) ++ rest)
shown-if true text rest r = cut_text-content text rest r
shown-if false text rest r = escaped-on text rest r

shown_text-content : (text rest : List ℕ) → IsContent rest → IsContent (shown_text text ++ rest)
shown_text-content text rest r = shown-if (is_long text) text rest r

mark-if : (b : Bool) (mark : ℕ) → IsContent (cond b [] (element_text (codes "tspan") (word_of (codes "dy") (codes "-4") ∷ word_of (codes "font-size") (codes "9") ∷ []) (decimal mark)))
mark-if true mark = nothing
mark-if false mark =
    let P : List ℕ → Type 0 = λ t. IsContent t in
    let inside : IsContent (decimal mark) = subst P (append-nil (decimal mark)) (plain-content (decimal mark) [] (decimal-plain mark) nothing) in
    subst P (append-nil (element_text (codes "tspan") (word_of (codes "dy") (codes "-4") ∷ word_of (codes "font-size") (codes "9") ∷ []) (decimal mark)))
    (element (codes "tspan") (word_of (codes "dy") (codes "-4") ∷ word_of (codes "font-size") (codes "9") ∷ []) (decimal mark) [] refl (refl, refl, (refl, refl, tt)) inside nothing)

mark_text-content : (mark : ℕ) → IsContent (mark_text mark)
mark_text-content mark = mark-if (mark == 0) mark

text_line-content : (s : Shape) (rest : List ℕ) → IsContent rest → IsContent (text_line s ++ rest)
text_line-content s rest r =
    element_line-content (codes "text") (text_attributes s.thing.what s.place) (shown_text s.thing.text ++ mark_text s.place.mark) rest refl
    (refl, decimal-plain s.place.x, (refl, decimal-plain s.place.y, (refl, class-plain s.place.mark, (refl, opacity-plain s.place.light, (refl, weight-plain s.thing.what s.place.light, tt)))))
    (shown_text-content s.thing.text (mark_text s.place.mark) (mark_text-content s.place.mark)) r

arrow_line-content : (p : Position) (head rest : List ℕ) → ArePlain head → IsContent rest → IsContent (arrow_line p head ++ rest)
arrow_line-content p head rest h r =
    element_line-content (codes "path") (word_of (codes "d") (way_of p head) ∷ word_of (codes "class") (codes "arrow") ∷ []) [] rest refl
    (refl, way-plain p head h, (refl, refl, tt)) nothing r

end_line-content : (x y row : ℕ) (rest : List ℕ) → IsContent rest → IsContent (end_line x y row ++ rest)
end_line-content x y row rest r =
    let P : List ℕ → Type 0 = λ t. IsContent t in
    let inside : IsContent (decimal row) = subst P (append-nil (decimal row)) (plain-content (decimal row) [] (decimal-plain row) nothing) in
    element_line-content (codes "text") (number_attribute (codes "x") (x - 2) ∷ number_attribute (codes "y") (y - 6) ∷ word_of (codes "class") (codes "c0") ∷ word_of (codes "text-anchor") (codes "end") ∷ word_of (codes "font-size") (codes "9") ∷ []) (decimal row) rest refl
    (refl, decimal-plain (x - 2), (refl, decimal-plain (y - 6), (refl, refl, (refl, refl, (refl, refl, tt))))) inside r

fold_lines-content : (p : Position) (row : ℕ) (rest : List ℕ) → IsContent rest → IsContent (fold_lines p row ++ rest)
fold_lines-content p row rest r =
    let P : List ℕ → Type 0 = λ t. IsContent t in
    let arrow : List ℕ = arrow_line p (codes "m7 -4l-7 4l7 4") in
    let first : List ℕ = end_line p.lane p.y row in
    let second : List ℕ = end_line p.lane p.to row in
    subst P (sym (append_assoc (arrow ++ first) second rest ∙ append_assoc arrow first (second ++ rest)))
    (arrow_line-content p (codes "m7 -4l-7 4l7 4") (first ++ (second ++ rest)) refl (end_line-content p.lane p.y row (second ++ rest) (end_line-content p.lane p.to row rest r)))

dot-plain : (mark : ℕ) → ArePlain (dot_class mark)
dot-plain mark = plain-if (mark == 0) _ _ refl refl

dot_line-content : (p : Position) (rest : List ℕ) → IsContent rest → IsContent (dot_line p ++ rest)
dot_line-content p rest r =
    element_line-content (codes "circle") (number_attribute (codes "cx") p.x ∷ number_attribute (codes "cy") p.y ∷ word_of (codes "r") (codes "6") ∷ word_of (codes "class") (dot_class p.mark) ∷ []) [] rest refl
    (refl, decimal-plain p.x, (refl, decimal-plain p.y, (refl, refl, (refl, dot-plain p.mark, tt)))) nothing r

square_line-content : (p : Position) (rest : List ℕ) → IsContent rest → IsContent (square_line p ++ rest)
square_line-content p rest r =
    element_line-content (codes "rect") (number_attribute (codes "x") p.x ∷ number_attribute (codes "y") p.y ∷ word_of (codes "width") (codes "12") ∷ word_of (codes "height") (codes "12") ∷ word_of (codes "class") (codes "c0") ∷ []) [] rest refl
    (refl, decimal-plain p.x, (refl, decimal-plain p.y, (refl, refl, (refl, refl, (refl, refl, tt))))) nothing r

lines_as-content : (what : What) (s : Shape) (rest : List ℕ) → IsContent rest → IsContent (lines_as what s ++ rest)
lines_as-content Fold s rest r = fold_lines-content s.place (s.thing.word - 3) rest r
lines_as-content Cover s rest r =
    let P : List ℕ → Type 0 = λ t. IsContent t in
    subst P (sym (append_assoc (arrow_line s.place (codes "m-7 -4l7 4l-7 4")) (text_line s) rest))
    (arrow_line-content s.place (codes "m-7 -4l7 4l-7 4") (text_line s ++ rest) refl (text_line-content s rest r))
lines_as-content Member s rest r = dot_line-content s.place rest r
lines_as-content Part s rest r = square_line-content s.place rest r
lines_as-content Label s rest r = text_line-content s rest r
lines_as-content Row s rest r = text_line-content s rest r
lines_as-content Symbol s rest r = text_line-content s rest r
lines_as-content Source s rest r = text_line-content s rest r
lines_as-content Column s rest r = text_line-content s rest r
lines_as-content Object s rest r = text_line-content s rest r

shapes-content : (ss : List Shape) → IsContent (flat_map shape_text ss)
shapes-content [] = nothing
shapes-content (s ∷ ss) = lines_as-content s.thing.what s (flat_map shape_text ss) (shapes-content ss)

help-content : (h : Help) (rest : List ℕ) → IsContent rest → IsContent (help_text h ++ rest)
help-content (Heading x y text) rest r =
    let P : List ℕ → Type 0 = λ t. IsContent t in
    element_line-content (codes "text") (number_attribute (codes "x") x ∷ number_attribute (codes "y") y ∷ word_of (codes "class") (codes "c0") ∷ word_of (codes "text-decoration") (codes "underline") ∷ []) (shown_text text) rest refl
    (refl, decimal-plain x, (refl, decimal-plain y, (refl, refl, (refl, refl, tt)))) (subst P (append-nil (shown_text text)) (shown_text-content text [] nothing)) r
help-content (Band x y width) rest r =
    element_line-content (codes "rect") (number_attribute (codes "x") x ∷ number_attribute (codes "y") y ∷ number_attribute (codes "width") width ∷ word_of (codes "height") (codes "20") ∷ word_of (codes "class") (codes "band") ∷ []) [] rest refl
    (refl, decimal-plain x, (refl, decimal-plain y, (refl, decimal-plain width, (refl, refl, (refl, refl, tt))))) nothing r
help-content (Rule x y to_x to_y) rest r =
    element_line-content (codes "line") (number_attribute (codes "x1") x ∷ number_attribute (codes "y1") y ∷ number_attribute (codes "x2") to_x ∷ number_attribute (codes "y2") to_y ∷ word_of (codes "class") (codes "rule") ∷ []) [] rest refl
    (refl, decimal-plain x, (refl, decimal-plain y, (refl, decimal-plain to_x, (refl, decimal-plain to_y, (refl, refl, tt))))) nothing r

helps-content : (hs : List Help) (rest : List ℕ) → IsContent rest → IsContent (flat_map help_text hs ++ rest)
helps-content [] rest r = r
helps-content (h ∷ hs) rest r =
    let P : List ℕ → Type 0 = λ t. IsContent t in
    subst P (sym (append_assoc (help_text h) (flat_map help_text hs) rest)) (help-content h (flat_map help_text hs ++ rest) (helps-content hs rest r))

note-content : (n : Note) (rest : List ℕ) → IsContent rest → IsContent (note_text n ++ rest)
note-content n rest r =
    element_line-content (codes "text") (number_attribute (codes "x") n.x ∷ number_attribute (codes "y") n.y ∷ word_of (codes "class") (codes "c0") ∷ word_of (codes "font-size") (codes "11") ∷ []) (escaped (text_of n.sign)) rest refl
    (refl, decimal-plain n.x, (refl, decimal-plain n.y, (refl, refl, (refl, refl, tt)))) (escaped-content (text_of n.sign)) r

notes-content : (ns : List Note) (rest : List ℕ) → IsContent rest → IsContent (flat_map note_text ns ++ rest)
notes-content [] rest r = r
notes-content (n ∷ ns) rest r =
    let P : List ℕ → Type 0 = λ t. IsContent t in
    subst P (sym (append_assoc (note_text n) (flat_map note_text ns) rest)) (note-content n (flat_map note_text ns ++ rest) (notes-content ns rest r))

ground-content : (rest : List ℕ) → IsContent rest → IsContent (ground_line ++ rest)
ground-content rest r =
    element_line-content (codes "rect") (word_of (codes "width") (codes "100%") ∷ word_of (codes "height") (codes "100%") ∷ word_of (codes "class") (codes "ground") ∷ []) [] rest refl
    (refl, refl, (refl, refl, (refl, refl, tt))) nothing r

front-content : (p : Picture) (rest : List ℕ) → IsContent rest → IsContent (front_lines p ++ rest)
front-content p rest r =
    let P : List ℕ → Type 0 = λ t. IsContent t in
    let title : List ℕ = element_line (codes "title") [] (escaped p.title) in
    let about : List ℕ = element_line (codes "desc") [] (escaped p.about) in
    let style : List ℕ = element_line (codes "style") [] style_text in
    let is_style : IsContent style_text = subst P (append-nil style_text) (plain-content style_text [] refl nothing) in
    subst P (sym (append_assoc title (about ++ style) rest)) (element_line-content (codes "title") [] (escaped p.title) ((about ++ style) ++ rest) refl tt (escaped-content p.title)
    (subst P (sym (append_assoc about style rest)) (element_line-content (codes "desc") [] (escaped p.about) (style ++ rest) refl tt (escaped-content p.about)
    (element_line-content (codes "style") [] style_text rest refl tt is_style r))))

inside-content : (p : Picture) → IsContent (svg_inside p)
inside-content p =
    let shapes = flat_map shape_text p.shapes in
    let notes = flat_map note_text p.legend in
    let helps = flat_map help_text p.helps in
    plain 10 (front_lines p ++ (ground_line ++ (helps ++ (notes ++ shapes)))) refl
    (front-content p (ground_line ++ (helps ++ (notes ++ shapes))) (ground-content (helps ++ (notes ++ shapes)) (helps-content p.helps (notes ++ shapes) (notes-content p.legend shapes (shapes-content p.shapes)))))

view-plain : (p : Picture) → ArePlain (codes "0 0 " ++ decimal p.width ++ codes " " ++ decimal p.height)
view-plain p =
    let a : List ℕ = codes "0 0 " ++ decimal p.width in
    let in_a : ArePlain a = plain-append (codes "0 0 ") (decimal p.width) refl (decimal-plain p.width) in
    plain-append (a ++ codes " ") (decimal p.height) (plain-append a (codes " ") in_a refl) (decimal-plain p.height)

pub svg_document : (p : Picture) (text : List ℕ) → text ≡ svg_text p → IsDocument text
svg_document p text e = record {
  name = codes "svg";
  is_name = refl;
  attributes = svg_attributes p;
  are_attributes = (refl, refl, (refl, decimal-plain p.width, (refl, decimal-plain p.height, (refl, view-plain p, (refl, refl, (refl, refl, (refl, refl, (refl, refl, tt))))))));
  inside = svg_inside p;
  is_content = inside-content p;
  is = e;
}
