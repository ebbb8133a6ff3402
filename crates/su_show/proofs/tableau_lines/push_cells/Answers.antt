-- The text so far is that of the set's attributes below the number; the next attribute adds its cell's text exactly if it is in the set.
use Rattle.std.proofs.Common.{ap, sym, ◌∙◌}
use Rattle.std.specs.FinSet.{contains}
use Rattle.su_show.specs.RowLines.{cell_text}
use Rattle.su_show.proofs.Numbers.{text-in, text-out}
use Rattle.su_show.proofs.tableau_lines.push_cells.Goals as goal
use Rattle.su_show.proofs.tableau_lines.push_cells.Goals.{then-contains+in_ok-push_cell, else-contains}

pub loop-attribute-preserved : goal.loop-attribute-preserved
loop-attribute-preserved c =
    let f = cell_text c.args.schema.now c.args.resolved.now c.args.cells.now in
    let p = contains c.args.set in
    let old = c.args.out.now.items in
    elim c.if-contains.branch [
      | then-contains+in_ok-push_cell w ↦ text-in f p c.loop-attribute.attribute old c.loop-attribute.out.items c.if-contains.out.items c.loop-attribute.invariant (sym c.contains.ensures ∙ w.if-contains.true) (ap (λ v. v.items) w.out-is ∙ w.in_ok-push_cell.ensures)
      | else-contains w ↦ text-out f p c.loop-attribute.attribute old c.loop-attribute.out.items c.if-contains.out.items c.loop-attribute.invariant (sym c.contains.ensures ∙ w.if-contains.false) (ap (λ v. v.items) w.out-is)
    ]
