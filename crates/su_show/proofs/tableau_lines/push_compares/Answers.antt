-- The lines so far are those of the comparisons before the number.
use Rattle.su_show.specs.TableauLines.{compare_line}
use Rattle.su_show.proofs.Numbers.{text-next}
use Rattle.su_show.proofs.tableau_lines.push_compares.Goals as goal

pub loop-number-preserved : goal.loop-number-preserved
loop-number-preserved c =
    text-next (compare_line c.args.schema.now c.args.resolved.now c.args.tableau.now) c.loop-number.number c.args.out.now.items c.loop-number.out.items c.push_compare.new.out.items c.loop-number.invariant c.in_ok-push_compare.ensures
