use Rattle.std.proofs.Common.{◌≤◌, length}
use Rattle.sqlite_trees.specs.View.{IsClean, IsQuiet}
use Rattle.su_keep.specs.inside.Writes.{MakesTables}
use Rattle.su_keep.proofs.writing.make_tables.Given as goal

abbrev pub invariant-loop-r : goal.invariant-loop-r
invariant-loop-r g l =
    let view = g.S.Store.view in
    record {
      from : l.first ≤ l.r;
      within : l.first ≤ length l.schema.relations → l.r ≤ length l.schema.relations;
      made : IsClean (view l.store) → MakesTables l.schema l.first l.r (view l.fn.store) (view l.store);
      quiet : IsQuiet view g.S.Store.faults g.S.Store.recovers g.S.Store.is_shielded l.fn.store l.store;
    }
