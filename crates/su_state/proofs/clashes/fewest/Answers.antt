-- The best so far is one of the columns below the next, if there is any among them; so, as there is one, the end has one too.
use Rattle.std.proofs.Common.{sym, arith}
use Rattle.su_state.proofs.Columns.{rare_skip, rare_stays}
use Rattle.su_state.proofs.clashes.fewest.Goals as goal
use Rattle.su_state.proofs.clashes.fewest.Goals.{then-contains+then-count-least, then-contains+else-count-least, else-contains}

pub loop-c-preserved : goal.loop-c-preserved
loop-c-preserved c =
    elim c.if-contains.branch [
      | then-contains+then-count-least w ↦ rw w.best-is (sym w.if-contains.ensures, omega arith)
      | then-contains+else-count-least w ↦ rw (w.best-is, w.least-is) (rare_stays c.args.columns c.args.table.now.width c.loop-c.c c.loop-c.least w.matching-count.result c.loop-c.best c.loop-c.invariant (omega arith) (omega arith))
      | else-contains w ↦ rw (w.best-is, w.least-is) (rare_skip c.args.columns c.args.table.now.width c.loop-c.c c.loop-c.least c.loop-c.best c.loop-c.invariant (sym w.if-contains.ensures))
    ]
