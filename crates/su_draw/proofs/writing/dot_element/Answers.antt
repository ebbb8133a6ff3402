-- The class that is written is that of the mark.
use Rattle.std.proofs.Common.{◌≡◌, ◌++◌, List, [], ◌∷◌, ℕ, ap, ◌∙◌}
use Rattle.std.specs.Prelude.{codes}
use Rattle.std.proofs.lemmas.Result.{on_ok_weaker}
use Rattle.su_draw.specs.Xml.{Attribute}
use Rattle.su_draw.specs.Looks.{word_of, number_attribute}
use Rattle.su_draw.specs.Shapes.{element_line}
use Rattle.su_draw.specs.declared.shapes.Position.{Position}
use Rattle.su_draw.proofs.writing.dot_element.Goals as goal

abbrev dot_pairs : Position → List ℕ → List Attribute
dot_pairs p class = number_attribute (codes "cx") p.x ∷ number_attribute (codes "cy") p.y ∷ word_of (codes "r") (codes "6") ∷ word_of (codes "class") class ∷ []

pub returns : goal.returns
returns c =
    let p = c.args.place in
    let old = c.args.out.now.items in
    on_ok_weaker c.element.result
    (λ (h : c.element.new.out.items ≡ old ++ element_line (codes "circle") (dot_pairs p c.dot.result.now) []). h ∙ ap (λ class. old ++ element_line (codes "circle") (dot_pairs p class) []) c.dot.ensures)
    c.element.ensures
