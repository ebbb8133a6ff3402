use Rattle.su_index.specs.inside.Order.{value_at}
use Rattle.su_index.proofs.Entries.{MergingEntries}
use Rattle.su_index.proofs.sorting.merged.Given as goal

abbrev pub invariant-loop-entry : goal.invariant-loop-entry
invariant-loop-entry l = MergingEntries (value_at l.rows l.column) l.early l.late l.run.items l.from l.entry-index
