use Rattle.std.proofs.Common.{◌≡◌, ◌<◌, ℕ, length, slice_index_or}
use Rattle.su_index.specs.inside.Chunks.{HasRoom}
use Rattle.su_index.specs.inside.Indexed.{AreIndexesBelow}
use Rattle.su_index.specs.declared.index.Index.{Index}
use Rattle.su_index.proofs.columns.make_room.Given as goal

abbrev pub invariant-loop-column : goal.invariant-loop-column
invariant-loop-column l = record {
  len : length l.indexes.items ≡ length l.fn.indexes.items;
  indexes : AreIndexesBelow l.rows (length l.rows) l.indexes.items;
  room : (k : ℕ) (d : Index) → k < l.column → HasRoom (slice_index_or l.indexes.items k d).chunks.items;
}
