use Rattle.std.proofs.Common.{◌≡◌, ◌≤◌, ◌++◌, length, take, List}
use Rattle.std.specs.Vec.Iter.{into_iter_items}
use Rattle.su_base.specs.declared.values.Value.{Value}
use Rattle.su_rel.specs.Changes.{PutInAll}
use Rattle.su_rel.specs.Stored.{HaveWidth}
use Rattle.su_rel.proofs.relations.Relation.insert_all.Given as goal

abbrev pub invariant-loop-row : goal.invariant-loop-row
invariant-loop-row l = record {
  can_next : (goal.iterator-loop-row).can_next l.row-iterator;
  finite : (goal.iterator-loop-row).is_finite l.row-iterator;
  rest : l.fn.rows ≡ l.yielded ++ into_iter_items l.row-iterator;
  before : take l.before l.self-inside.rows.keys ≡ l.initial.self-inside.rows.keys;
  longer : l.before ≤ length l.self-inside.rows.keys;
  same : l.self-inside.width ≡ l.initial.self-inside.width;
  width : HaveWidth l.self-inside.width l.self-inside.rows.keys;
  put : (rows news : List (List Value)) → PutInAll l.self-inside.rows.keys rows news → PutInAll l.initial.self-inside.rows.keys (l.yielded ++ rows) news;
}
