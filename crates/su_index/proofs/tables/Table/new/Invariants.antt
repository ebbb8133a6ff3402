use Rattle.std.proofs.Common.{◌≡◌, [], All, length}
use Rattle.su_index.proofs.tables.Table.new.Given as goal

abbrev pub invariant-loop : goal.invariant-loop
invariant-loop l = record {
  len : length l.indexes.items ≡ l.counter;
  empty : All (λ index. index.chunks.items ≡ []) l.indexes.items;
}
