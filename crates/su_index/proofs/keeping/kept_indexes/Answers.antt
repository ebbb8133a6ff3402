-- The positions of an index's run are those of the rows, so each has a mark and a rank.
use Rattle.std.proofs.Common.{arith}
use Rattle.su_index.proofs.keeping.kept_indexes.Goals as goal

pub kept_run-requires-clause-positions : goal.kept_run-requires-clause-positions
kept_run-requires-clause-positions c =
    rw (c.as_slice-in-loop-index.ensures.value, c.in_ok-run.ensures, c.as_slice.ensures.value) (rw (← c.index-item.is) at (c.requires.positions c.loop-index.index-index c.index-item.result (omega arith)))
