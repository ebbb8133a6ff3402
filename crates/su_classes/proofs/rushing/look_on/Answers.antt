-- The merges so far follow from the dependencies, however many spots are still pending; taking one and looking its row up again keeps that.
use Rattle.std.proofs.Common.{length}
use Rattle.std.specs.Prelude.{All}
use Rattle.su_classes.specs.Items.{Keeps}
use Rattle.su_classes.proofs.JoinedRows.{merging_then}
use Rattle.su_classes.proofs.Rings.{for_same}
use Rattle.su_classes.proofs.rushing.look_on.Goals as goal

pub loop-preserved : goal.loop-preserved
loop-preserved c =
    let items = length c.args.table.now in
    let count = length c.args.ruled.now.rows.now in
    record {
      merging = merging_then (λ label. All (λ r. Keeps label c.args.ruled.now.rows.now r.fd) c.args.ruled.now.rules.now) c.args.table.now c.loop.table c.look_under.new.table c.loop.invariant.merging c.in_ok-look_under.ensures.merging;
      work = for_same items count c.next_pending.new.self c.look_under.new.work (for_same items count c.loop.work c.next_pending.new.self c.loop.invariant.work c.next_pending.ensures.same) c.in_ok-look_under.ensures.same;
      notes = c.in_ok-look_under.ensures.notes;
    }
