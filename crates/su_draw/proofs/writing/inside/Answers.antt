-- What stands there grows by the six parts in turn.
use Rattle.std.proofs.Common.{◌≡◌, ◌++◌, flat_map, List, ap, ◌∙◌}
use Rattle.std.specs.Prelude.{codes}
use Rattle.su_draw.specs.Svg.{ground_line, front_lines, help_text, note_text}
use Rattle.su_draw.specs.Shapes.{shape_text}
use Rattle.su_draw.specs.declared.shapes.Help.{Help}
use Rattle.su_draw.specs.declared.shapes.Note.{Note}
use Rattle.su_draw.specs.declared.shapes.Shape.{Shape}
use Rattle.std.proofs.lemmas.Result.{on_ok_weaker}
use Rattle.su_draw.proofs.Assembled.{six_parts}
use Rattle.su_draw.proofs.writing.inside.Goals as goal

pub returns : goal.returns
returns c =
    let p = c.args.picture.now in
    on_ok_weaker c.shape_elements.result
    (λ (h : c.shape_elements.new.out.items ≡ c.note_elements.new.out.items ++ flat_map shape_text c.as_slice-3.result.now).
    six_parts c.args.out.now.items (codes "\n") (front_lines p) ground_line (flat_map help_text p.helps) (flat_map note_text p.legend) (flat_map shape_text p.shapes)
    c.push.new.out.items c.front.new.out.items c.ground.new.out.items c.help_elements.new.out.items c.note_elements.new.out.items c.shape_elements.new.out.items
    c.in_ok-push.ensures c.in_ok-front.ensures c.in_ok-ground.ensures
    (c.in_ok-help_elements.ensures ∙ ap (λ (hs : List Help). c.ground.new.out.items ++ flat_map help_text hs) c.as_slice.ensures)
    (c.in_ok-note_elements.ensures ∙ ap (λ (ns : List Note). c.help_elements.new.out.items ++ flat_map note_text ns) c.as_slice-2.ensures)
    (h ∙ ap (λ (ss : List Shape). c.note_elements.new.out.items ++ flat_map shape_text ss) c.as_slice-3.ensures))
    c.shape_elements.ensures
