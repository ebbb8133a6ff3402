-- A part more multiplies the combinations by its disjuncts, and the bound passes through.
use Rattle.std.proofs.Common.{◌∙◌}
use Rattle.su_where.proofs.Disjunctive.{counted_more}
use Rattle.su_where.proofs.forms.+count.Goals as goal

pub count_combined-loop-part-preserved : goal.count_combined-loop-part-preserved
count_combined-loop-part-preserved t c =
    c.min-total.ensures
    ∙ counted_more c.args.negated c.args.parts.now c.loop-part.part-index c.part-item.result c.loop-part.total c.count.result c.loop-part-test.true c.part-item.is c.count.ensures c.loop-part.invariant
