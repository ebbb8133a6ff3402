-- The table so far is the least in which the items at the attributes so far are together, and it changed exactly where classes became fewer.
use Rattle.std.proofs.Common.{◌≡◌, arith}
use Rattle.su_classes.specs.Items.{item_of}
use Rattle.su_classes.proofs.Merges.{joining_cells, joining_all, progress_then}
use Rattle.su_classes.proofs.sweeping.join_at.Goals as goal

pub loop-a-preserved : goal.loop-a-preserved
loop-a-preserved c = record {
  joining = joining_cells (item_of c.args.row.now) (item_of c.args.other.now) c.args.attributes.now c.loop-a.a-index _ c.item_at.result c.item_at-in-loop-a.result c.args.table.now c.loop-a.table c.join-changed.new.table c.loop-a-test.true c.item_at.ensures c.item_at-in-loop-a.ensures
      c.loop-a.invariant.joining c.join-changed.ensures.joining;
  progress = progress_then c.args.table.now c.loop-a.table c.join-changed.new.table c.loop-a.changed c.join-changed.result c.loop-a.invariant.progress c.join-changed.ensures.progress;
}

pub returns-clause-joining : goal.returns-clause-joining
returns-clause-joining c =
    joining_all (λ label a. label (item_of c.args.row.now a) ≡ label (item_of c.args.other.now a)) c.args.attributes.now c.loop-a.a-index c.args.table.now c.loop-a.table (omega arith) (omega arith) c.loop-a.invariant.joining
