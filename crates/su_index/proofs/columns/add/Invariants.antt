use Rattle.std.proofs.Common.{◌≡◌, ◌<◌, ◌≤◌, ℕ, length, slice_index_or}
use Rattle.su_index.specs.inside.Indexed.{IsIndexBelow}
use Rattle.su_index.specs.declared.index.Index.{Index}
use Rattle.su_index.proofs.columns.add.Given as goal

abbrev pub invariant-loop-column : goal.invariant-loop-column
invariant-loop-column l = record {
  len : length l.indexes.items ≡ length l.fn.indexes.items;
  done : (k : ℕ) (d : Index) → k < l.column → IsIndexBelow l.rows k (length l.rows) (slice_index_or l.indexes.items k d);
  left : (k : ℕ) (d : Index) → l.column ≤ k → k < length l.indexes.items → slice_index_or l.indexes.items k d ≡ slice_index_or l.fn.indexes.items k d;
}
