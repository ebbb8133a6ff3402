use Rattle.std.proofs.Common.{◌≡◌, length, IsSome}
use Rattle.sqlite_trees.specs.View.{IsClean, IsQuiet}
use Rattle.su_entries.specs.inside.Steps.{HasRead}
use Rattle.su_entries.proofs.reading.read_rows.Given as goal

abbrev pub invariant-loop-number : goal.invariant-loop-number
invariant-loop-number g l =
    let view = g.S.Store.view in
    record {
      live : IsSome ((view l.store).cursors 0);
      many : IsClean (view l.store) → length l.rows ≡ l.number;
      read : IsClean (view l.store) → HasRead ((view l.fn.store).trees l.tree) (view l.fn.store) (view l.store) l.rows;
      quiet : IsQuiet view g.S.Store.faults g.S.Store.recovers g.S.Store.is_shielded l.fn.store l.store;
    }
