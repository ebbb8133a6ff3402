-- What stands there grows by the arrow and the number at its two ends.
use Rattle.std.proofs.Common.{◌≡◌, ◌++◌}
use Rattle.std.specs.Prelude.{codes}
use Rattle.std.proofs.lemmas.Result.{on_ok_weaker}
use Rattle.su_draw.specs.Shapes.{arrow_line, end_line}
use Rattle.su_draw.proofs.Assembled.{three_parts}
use Rattle.su_draw.proofs.writing.fold_element.Goals as goal

pub returns : goal.returns
returns c =
    let p = c.args.place in
    on_ok_weaker c.end_element-2.result
    (λ (h : c.end_element-2.new.out.items ≡ c.end_element.new.out.items ++ end_line p.lane p.to c.args.row).
    three_parts c.args.out.now.items (arrow_line p (codes "m7 -4l-7 4l7 4")) (end_line p.lane p.y c.args.row) (end_line p.lane p.to c.args.row)
    c.arrow_element.new.out.items c.end_element.new.out.items c.end_element-2.new.out.items c.in_ok-arrow_element.ensures c.in_ok-end_element.ensures h)
    c.end_element-2.ensures
