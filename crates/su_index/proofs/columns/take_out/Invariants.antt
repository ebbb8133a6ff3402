use Rattle.std.proofs.Common.{◌≡◌, ◌<◌, ◌≤◌, ℕ, length, slice_index_or}
use Rattle.su_index.specs.declared.index.Index.{Index}
use Rattle.su_index.specs.inside.Upkeep.{IsIndexWithout}
use Rattle.su_index.proofs.columns.take_out.Given as goal

abbrev pub invariant-loop-column : goal.invariant-loop-column
invariant-loop-column l = record {
  len : length l.indexes.items ≡ length l.fn.indexes.items;
  done : (k : ℕ) (d : Index) → k < l.column → IsIndexWithout l.rows k l.position (slice_index_or l.indexes.items k d);
  left : (k : ℕ) (d : Index) → l.column ≤ k → k < length l.indexes.items → slice_index_or l.indexes.items k d ≡ slice_index_or l.fn.indexes.items k d;
}
