-- The merges for the rows so far follow from the dependencies, and one merging after another is a merging; the worklist stays one for these items.
use Rattle.std.specs.Prelude.{All}
use Rattle.su_classes.specs.Items.{Keeps}
use Rattle.su_classes.proofs.JoinedRows.{merging_then}
use Rattle.su_classes.proofs.Rings.{same_then}
use Rattle.su_classes.proofs.rushing.look_at_all.Goals as goal

pub loop-position-preserved : goal.loop-position-preserved
loop-position-preserved c = record {
  merging = merging_then (λ label. All (λ r. Keeps label c.args.ruled.now.rows.now r.fd) c.args.ruled.now.rules.now) c.args.table.now c.loop-position.table c.look_at_row.new.table c.loop-position.invariant.merging c.in_ok-look_at_row.ensures.merging;
  same = same_then c.args.work.now c.loop-position.work c.look_at_row.new.work c.loop-position.invariant.same c.in_ok-look_at_row.ensures.same;
  notes = c.in_ok-look_at_row.ensures.notes;
}
