-- The rows that were read are those of the tree's front, and the cursor has the rest.
use Rattle.std.proofs.Common.{◌+◌, ap, sym, subst, length}
use Rattle.sqlite_disk.specs.Disk.{MoreFaults}
use Rattle.sqlite_trees.specs.Tree.{order_of}
use Rattle.sqlite_trees.specs.View.{IsClean}
use Rattle.su_entries.specs.Reading.{FailsToRead}
use Rattle.su_entries.specs.inside.Steps.{ReadsOne, IsStepFault}
use Rattle.su_entries.proofs.QuietCalls.{quiet_then, clean_before}
use Rattle.su_entries.proofs.Passing.{passed_on}
use Rattle.su_entries.proofs.TreeSoFar.{begun, read_on, one_longer, fault_of_all}
use Rattle.su_entries.proofs.reading.read_rows.Goals as goal

pub loop-number-init : goal.loop-number-init
loop-number-init g c =
    let start = g.S.Store.view c.args.store.now in
    record {
      live = c.in_ok-seek.ensures.live;
      many = λ clean. ap length c.new-rows.ensures;
      read = λ clean. begun (order_of (start.shape c.args.tree)) (start.trees c.args.tree) start (g.S.Store.view c.seek.new.self) c.new-entry.result c.new-rows.result c.new-entry.ensures c.new-rows.ensures
          (c.in_ok-seek.ensures.ok clean);
      quiet = c.seek.ensures.quiet;
    }

pub returns-in_err-read_next-clause-fault : goal.returns-in_err-read_next-clause-fault
returns-in_err-read_next-clause-fault g c =
    let start = g.S.Store.view c.args.store.now in
    let now = g.S.Store.view c.loop-number.store in
    let before = g.S.Store.faults c.args.store.now in
    let here = g.S.Store.faults c.loop-number.store in
    let after = g.S.Store.faults c.read_next.new.store in
    let fault = c.in_err-read_next.field-0.0 in
    passed_on c.from_residual-in_err-read_next.result fault
    (FailsToRead g.S.Store.view g.S.Store.faults c.args.store.now c.read_next.new.store c.args.tree c.args.most)
    c.from_residual-in_err-read_next.ensures.1
    (λ clean.
    let was = clean_before c.read_next.ensures.quiet clean in
    fault_of_all start now c.args.tree c.args.most before here after c.loop-number.rows fault (c.loop-number.invariant.read was) c.loop-number.invariant.quiet.counts
    (subst (λ n. IsStepFault now (MoreFaults here after) (n + 1) fault) (sym (c.loop-number.invariant.many was)) (c.in_err-read_next.ensures.fault clean)))

pub loop-number-preserved : goal.loop-number-preserved
loop-number-preserved g c =
    let start = g.S.Store.view c.args.store.now in
    let now = g.S.Store.view c.loop-number.store in
    let after = g.S.Store.view c.read_next.new.store in
    let was = λ (clean : IsClean after). clean_before c.read_next.ensures.quiet clean in
    let step = λ (clean : IsClean after). subst (ReadsOne now after c.loop-number.rows c.read_next.new.rows) c.if-not-branch.false (c.in_ok-read_next.ensures.read clean) in
    record {
      live = c.in_ok-read_next.ensures.live;
      many = λ clean. one_longer now after c.loop-number.rows c.read_next.new.rows c.loop-number.number (step clean) (c.loop-number.invariant.many (was clean));
      read = λ clean. read_on (start.trees c.args.tree) start now after c.loop-number.rows c.read_next.new.rows (c.loop-number.invariant.read (was clean)) (step clean);
      quiet = quiet_then c.loop-number.invariant.quiet c.read_next.ensures.quiet;
    }
