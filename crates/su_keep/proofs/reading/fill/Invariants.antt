use Rattle.std.proofs.Common.{◌≡◌}
use Rattle.sqlite_trees.specs.View.{IsClean, IsQuiet}
use Rattle.su_entries.specs.Reading.{MovesCursors}
use Rattle.su_keep.specs.inside.Finds.{Fills}
use Rattle.su_keep.proofs.reading.fill.Given as goal

abbrev pub invariant-loop-r : goal.invariant-loop-r
invariant-loop-r g l =
    let view = g.S.Store.view in
    record {
      filled : IsClean (view l.store) → Fills l.r (view l.fn.store).trees l.fn.database l.database;
      schema : l.database.schema ≡ l.fn.database.schema;
      same : IsClean (view l.store) → MovesCursors (view l.fn.store) (view l.store);
      quiet : IsQuiet view g.S.Store.faults g.S.Store.recovers g.S.Store.is_shielded l.fn.store l.store;
    }
