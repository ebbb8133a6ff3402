use Rattle.std.proofs.Common.{take}
use Rattle.sqlite_trees.specs.View.{IsClean, IsQuiet}
use Rattle.su_entries.specs.Changes.{PutsIn}
use Rattle.su_entries.proofs.changing.put_in.Given as goal

abbrev pub invariant-loop-row : goal.invariant-loop-row
invariant-loop-row g l =
    let view = g.S.Store.view in
    record {
      front : IsClean (view l.store) → PutsIn (view l.fn.store) (view l.store) l.tree (take l.row-index l.rows);
      quiet : IsQuiet view g.S.Store.faults g.S.Store.recovers g.S.Store.is_shielded l.fn.store l.store;
    }
