use Rattle.std.proofs.Common.{◌≡◌, [], length}
use Rattle.su_classes.specs.inside.Worklists.{IsWell, IsFor}
use Rattle.su_classes.proofs.worklist.worklist_of.Given as goal

abbrev pub invariant-loop-item : goal.invariant-loop-item
invariant-loop-item l = record {
  well : IsWell l.work;
  count : length l.work.marks.items ≡ length l.table;
  spots : l.work.spots ≡ [];
}

abbrev pub invariant-loop-position : goal.invariant-loop-position
invariant-loop-position l = IsFor (length l.table) (length l.rows) l.work
