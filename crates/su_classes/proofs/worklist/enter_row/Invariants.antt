use Rattle.std.proofs.Common.{length}
use Rattle.su_classes.specs.inside.Worklists.{IsFor}
use Rattle.su_classes.proofs.worklist.enter_row.Given as goal

abbrev pub invariant-loop-attribute : goal.invariant-loop-attribute
invariant-loop-attribute l = IsFor (length l.fn.work.marks.items) (length l.rows) l.work
