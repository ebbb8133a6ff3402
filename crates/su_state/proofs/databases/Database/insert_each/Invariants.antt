use Rattle.std.proofs.Common.{◌≡◌, ◌≤◌, ◌++◌, length, take}
use Rattle.std.specs.Vec.Iter.{into_iter_items}
use Rattle.su_state.specs.DatabaseValue.{rows_of}
use Rattle.su_state.specs.Loads.{InsertsAll}
use Rattle.su_state.proofs.databases.Database.insert_each.Given as goal

abbrev pub invariant-loop-row : goal.invariant-loop-row
invariant-loop-row l = record {
  can_next : (goal.iterator-loop-row).can_next l.row-iterator;
  finite : (goal.iterator-loop-row).is_finite l.row-iterator;
  rest : l.fn.rows ≡ l.yielded ++ into_iter_items l.row-iterator;
  number : l.number ≡ length l.yielded;
  few : l.new ≤ l.number;
  schema : length l.self.schema.relations ≡ length l.initial.self.schema.relations;
  front : take (length (rows_of l.initial.self l.relation)) (rows_of l.self l.relation) ≡ rows_of l.initial.self l.relation;
  inserts : InsertsAll l.initial.self l.relation l.yielded l.new l.self;
}
