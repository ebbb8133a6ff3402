-- The merges so far follow from the dependencies; while nothing has changed the table is still the one that keeps those looked at so far.
use Rattle.su_classes.proofs.Merges.{progress_then}
use Rattle.su_classes.proofs.JoinedRows.{sweep_merging, sweep_more}
use Rattle.su_classes.proofs.sweeping.sweep.Goals as goal

pub loop-fd-preserved : goal.loop-fd-preserved
loop-fd-preserved c =
    let rows = c.args.rows.now in
    let fds = c.args.fds.now in
    let i = c.loop-fd.fd-index in
    let f = c.fd-item.result in
    let old = c.args.table.now in
    let t = c.loop-fd.table in
    let new = c.bind.new.table in
    let x = c.loop-fd.changed in
    let z = c.in_ok-changed.field-0 in
    let is = c.fd-item.is in
    let e = c.in_ok-changed.ensures in
    record {
      flat = e.flat;
      merging = sweep_merging rows fds i f old t new c.loop-fd-test.true is c.loop-fd.invariant.merging e.merging;
      progress = progress_then old t new x z c.loop-fd.invariant.progress e.progress;
      settled = sweep_more rows fds i f t new x z c.loop-fd-test.true is c.loop-fd.invariant.flat e.progress c.loop-fd.invariant.settled e.settled;
    }
