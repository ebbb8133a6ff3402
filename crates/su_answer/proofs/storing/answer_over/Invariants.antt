use Rattle.std.proofs.Common.{◌≡◌, length}
use Rattle.su_answer.proofs.Union.{AreUnited}
use Rattle.su_answer.proofs.storing.answer_over.Given as goal

abbrev pub invariant-loop-minimals : goal.invariant-loop-minimals
invariant-loop-minimals g l = record {
  tables : g.S.Rows.tables l.store ≡ g.S.Rows.tables l.fn.store;
  united : AreUnited (record { schema = l.fn.schema; tables = g.S.Rows.tables l.fn.store }) l.fn.prepared.minimals l.fn.prepared.reduced.kept l.left l.rows;
}

abbrev pub decreases-loop-minimals : goal.decreases-loop-minimals
decreases-loop-minimals g l = length l.left
