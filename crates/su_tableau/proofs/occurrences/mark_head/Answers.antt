-- A symbol of the head that is a variable is one of its variables, which are all below the count.
use Rattle.std.proofs.Common.{arith}
use Rattle.su_tableau.specs.declared.symbols.Sym.TheVariants.{Var}
use Rattle.su_tableau.proofs.Rows.{contains_read}
use Rattle.su_tableau.proofs.occurrences.mark_head.Goals as goal

pub mark-requires : goal.mark-requires
mark-requires c = record { below = λ k e. let l = c.requires k (contains_read c.args.head.now c.loop-x.x-index c.x-item.result (Var k) c.loop-x-test.true c.x-item.is e) in omega arith }
