use Rattle.std.proofs.Common.{◌≡◌, length}
use Rattle.su_index.specs.inside.Upkeep.{AreKept}
use Rattle.su_index.proofs.keeping.kept_indexes.Given as goal

abbrev pub invariant-loop-index : goal.invariant-loop-index
invariant-loop-index l = record {
  len : length l.new.items ≡ l.index-index;
  kept : AreKept l.kept l.indexes l.new.items;
}
