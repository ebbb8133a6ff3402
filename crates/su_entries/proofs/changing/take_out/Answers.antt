-- The rows before the place are out, and those from it on are taken out next.
use Rattle.std.proofs.Common.{◌≡◌, rules, take}
use Rattle.sqlite_trees.specs.Tree.{order_of}
use Rattle.su_entries.specs.Changes.{without_rows, IsCaused}
use Rattle.su_entries.specs.Entries.{entry_of}
use Rattle.su_entries.proofs.Passing.{passed_on, err_passed}
use Rattle.su_entries.proofs.QuietCalls.{clean_before, quiet_itself, quiet_then}
use Rattle.su_entries.proofs.TreeChanged.{cause_of_all, taken_none, taken_more, taken_all, taken_failed, takes_rows}
use Rattle.su_entries.proofs.changing.take_out.Goals as goal

pub returns-in_err-remove-clause-cause : goal.returns-in_err-remove-clause-cause
returns-in_err-remove-clause-cause g c =
    let start = g.S.Store.view c.args.store.now in
    let now = g.S.Store.view c.loop-row.store in
    let entries = without_rows (order_of (start.shape c.args.tree)) (take c.loop-row.row-index c.args.rows.now) (start.trees c.args.tree) in
    let error = c.in_err-remove.field-0.0 in
    passed_on c.from_residual.result error (IsCaused g.S.Store.view g.S.Store.faults c.args.store.now c.remove.new.self ⊥)
    c.from_residual.ensures.1
    (λ clean.
    let only = c.loop-row.invariant.front (clean_before c.remove.ensures.quiet clean) in
    cause_of_all start now c.args.tree entries (g.S.Store.faults c.args.store.now) (g.S.Store.faults c.loop-row.store) (g.S.Store.faults c.remove.new.self) _ _ error only
    c.loop-row.invariant.quiet.counts (λ never. never) (c.in_err-remove.ensures.cause clean))

pub returns-in_err-remove-clause-front : goal.returns-in_err-remove-clause-front
returns-in_err-remove-clause-front g c =
    let start = g.S.Store.view c.args.store.now in
    let now = g.S.Store.view c.loop-row.store in
    let error = c.in_err-remove.field-0.0 in
    err_passed c.from_residual.result _ _ c.from_residual.ensures.1
    (λ clean. taken_failed start now (g.S.Store.view c.remove.new.self) c.args.tree c.loop-row.row-index c.args.rows.now error
    (c.loop-row.invariant.front (clean_before c.remove.ensures.quiet clean)) c.in_err-remove.ensures.err)

pub returns-clause-done : goal.returns-clause-done
returns-clause-done g c clean =
    taken_all (g.S.Store.view c.args.store.now) (g.S.Store.view c.loop-row.store) c.args.tree c.loop-row.row-index c.args.rows.now (c.loop-row.invariant.front clean) c.loop-row-test.false

pub returns-clause-rows : goal.returns-clause-rows
returns-clause-rows g c clean = takes_rows (g.S.Store.view c.args.store.now) (g.S.Store.view c.loop-row.store) c.args.tree c.args.rows.now (returns-clause-done g c clean)

pub loop-row-init : goal.loop-row-init
loop-row-init g c = record {
  front = λ clean. taken_none (g.S.Store.view c.args.store.now) c.args.tree c.args.rows.now;
  quiet = quiet_itself c.args.store.now;
}

pub loop-row-preserved : goal.loop-row-preserved
loop-row-preserved g c =
    let start = g.S.Store.view c.args.store.now in
    let now = g.S.Store.view c.loop-row.store in
    let filled : c.fill_entry.new.entry ≡ entry_of c.row-item.result = search rules in
    record {
      front = λ clean. taken_more start now (g.S.Store.view c.remove.new.self) c.args.tree c.loop-row.row-index c.args.rows.now c.row-item.result c.fill_entry.new.entry
          (c.loop-row.invariant.front (clean_before c.remove.ensures.quiet clean)) (c.in_ok-remove.ensures.ok clean) c.loop-row-test.true c.row-item.is filled;
      quiet = quiet_then c.loop-row.invariant.quiet c.remove.ensures.quiet;
    }
