-- The condition fits each of the rows, so its truth can be asked of it.
use Rattle.std.proofs.Common.{List, length, subst, sym}
use Rattle.su_base.specs.declared.values.Value.{Value}
use Rattle.su_where.specs.Places.{Fits}
use Rattle.su_state.proofs.conditions.marks.Goals as goal

pub truth-requires : goal.truth-requires
truth-requires c = record { places = subst (λ (row : List Value). Fits (length row) c.args.condition.now) (sym c.row-item.is) (c.requires c.loop-row.row-index c.row-item.result c.loop-row-test.true) }
