-- The items so far are the numbers of the variable's pairs with the attributes so far.
use Rattle.std.proofs.Common.{arith}
use Rattle.su_base.proofs.Items.{map-range_push}
use Rattle.su_tableau.specs.declared.symbols.Sym.TheVariants.{Var}
use Rattle.su_classes.specs.inside.Symbols.{symbol_number}
use Rattle.su_steps.specs.PairSymbols.{pair}
use Rattle.su_steps.proofs.rows.placed_row.Goals as goal

pub loop-a-preserved : goal.loop-a-preserved
loop-a-preserved c = map-range_push (λ a. symbol_number c.args.constants.now (Var (pair c.width_of-width.result c.args.origin.now.variable a))) c.loop-a.a c.loop-a.cells _ _ c.in_ok-push.ensures.ok c.loop-a.invariant (omega arith)
