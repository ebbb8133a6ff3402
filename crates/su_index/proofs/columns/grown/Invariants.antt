use Rattle.std.proofs.Common.{◌≡◌, length}
use Rattle.su_index.specs.inside.Indexed.{AreIndexesBelow}
use Rattle.su_index.proofs.columns.grown.Given as goal

abbrev pub invariant-loop-column : goal.invariant-loop-column
invariant-loop-column l = record {
  len : length l.grown.items ≡ l.column;
  indexes : AreIndexesBelow l.rows (length l.rows) l.grown.items;
}
