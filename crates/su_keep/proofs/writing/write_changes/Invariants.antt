use Rattle.std.proofs.Common.{◌≡◌, ◌++◌}
use Rattle.std.specs.Vec.Iter.{into_iter_items}
use Rattle.sqlite_trees.specs.View.{IsClean, IsQuiet}
use Rattle.su_keep.specs.inside.Writes.{WritesTables}
use Rattle.su_keep.proofs.writing.write_changes.Given as goal

abbrev pub invariant-loop-change : goal.invariant-loop-change
invariant-loop-change g l =
    let view = g.S.Store.view in
    record {
      can_next : (goal.iterator-loop-change g).can_next l.change-iterator;
      finite : (goal.iterator-loop-change g).is_finite l.change-iterator;
      rest : l.fn.changes ≡ l.yielded ++ into_iter_items l.change-iterator;
      written : IsClean (view l.store) → WritesTables l.yielded (view l.fn.store) (view l.store);
      quiet : IsQuiet view g.S.Store.faults g.S.Store.recovers g.S.Store.is_shielded l.fn.store l.store;
    }
