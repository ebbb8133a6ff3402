-- The attributes that are written are those of the definition, since each look-up gives what it says.
use Rattle.std.proofs.Common.{◌≡◌, ◌++◌, List, ℕ, ap, ◌∙◌}
use Rattle.std.specs.Prelude.{codes}
use Rattle.su_draw.specs.Xml.{Attribute}
use Rattle.su_draw.specs.Cutting.{shown_text}
use Rattle.su_draw.specs.Shapes.{text_attributes, text_pairs, element_line, mark_text}
use Rattle.std.proofs.lemmas.Result.{on_ok_weaker}
use Rattle.su_draw.proofs.Assembled.{same_pairs}
use Rattle.su_draw.proofs.writing.text_element.Goals as goal

pub returns : goal.returns
returns c =
    let s = c.args.shape.now in
    let old = c.args.out.now.items in
    let mark = mark_text s.place.mark in
    let same : text_pairs s.place c.class.result.now c.opacity.result.now c.weight.result.now ≡ text_attributes s.thing.what s.place = same_pairs s.place _ _ _ _ _ _ c.class.ensures c.opacity.ensures c.weight.ensures in
    on_ok_weaker c.marked_element.result
    (λ (h : c.marked_element.new.out.items ≡ old ++ element_line (codes "text") (text_pairs s.place c.class.result.now c.opacity.result.now c.weight.result.now) (shown_text c.as_slice.result.now ++ mark)).
    h ∙ ap (λ (pairs : List Attribute). old ++ element_line (codes "text") pairs (shown_text c.as_slice.result.now ++ mark)) same
    ∙ ap (λ (text : List ℕ). old ++ element_line (codes "text") (text_attributes s.thing.what s.place) (shown_text text ++ mark)) c.as_slice.ensures)
    c.marked_element.ensures
