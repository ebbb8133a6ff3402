-- The rows before the place are in, and those from it on are put in next.
use Rattle.std.proofs.Common.{◌≡◌, rules, take}
use Rattle.sqlite_trees.specs.Tree.{order_of}
use Rattle.su_entries.specs.Changes.{with_rows, AreStorable, IsCaused}
use Rattle.su_entries.specs.Entries.{entry_of}
use Rattle.su_entries.proofs.Passing.{passed_on, err_passed}
use Rattle.su_entries.proofs.QuietCalls.{clean_before, quiet_itself, quiet_then}
use Rattle.su_entries.proofs.TreeChanged.{cause_of_all, not_all, put_none, put_more, put_all, put_failed, puts_rows}
use Rattle.su_entries.proofs.changing.put_in.Goals as goal

pub returns-in_err-insert-clause-cause : goal.returns-in_err-insert-clause-cause
returns-in_err-insert-clause-cause g c =
    let start = g.S.Store.view c.args.store.now in
    let now = g.S.Store.view c.loop-row.store in
    let entries = with_rows (order_of (start.shape c.args.tree)) (take c.loop-row.row-index c.args.rows.now) (start.trees c.args.tree) in
    let error = c.in_err-insert.field-0.0 in
    passed_on c.from_residual.result error (IsCaused g.S.Store.view g.S.Store.faults c.args.store.now c.insert.new.self (AreStorable (start.reals c.args.tree) c.args.rows.now → ⊥))
    c.from_residual.ensures.1
    (λ clean.
    let only = c.loop-row.invariant.front (clean_before c.insert.ensures.quiet clean) in
    let filled : c.fill_entry.new.entry ≡ entry_of c.row-item.result = search rules in
    cause_of_all start now c.args.tree entries (g.S.Store.faults c.args.store.now) (g.S.Store.faults c.loop-row.store) (g.S.Store.faults c.insert.new.self) _ _ error only
    c.loop-row.invariant.quiet.counts
    (not_all start now c.args.tree c.loop-row.row-index entries c.args.rows.now c.row-item.result c.fill_entry.new.entry only c.loop-row-test.true c.row-item.is filled)
    (c.in_err-insert.ensures.cause clean))

pub returns-in_err-insert-clause-front : goal.returns-in_err-insert-clause-front
returns-in_err-insert-clause-front g c =
    let start = g.S.Store.view c.args.store.now in
    let now = g.S.Store.view c.loop-row.store in
    let error = c.in_err-insert.field-0.0 in
    err_passed c.from_residual.result _ _ c.from_residual.ensures.1
    (λ clean. put_failed start now (g.S.Store.view c.insert.new.self) c.args.tree c.loop-row.row-index c.args.rows.now error
    (c.loop-row.invariant.front (clean_before c.insert.ensures.quiet clean)) c.in_err-insert.ensures.err)

pub returns-clause-done : goal.returns-clause-done
returns-clause-done g c clean =
    put_all (g.S.Store.view c.args.store.now) (g.S.Store.view c.loop-row.store) c.args.tree c.loop-row.row-index c.args.rows.now (c.loop-row.invariant.front clean) c.loop-row-test.false

pub returns-clause-rows : goal.returns-clause-rows
returns-clause-rows g c clean = puts_rows (g.S.Store.view c.args.store.now) (g.S.Store.view c.loop-row.store) c.args.tree c.args.rows.now (returns-clause-done g c clean)

pub loop-row-init : goal.loop-row-init
loop-row-init g c = record {
  front = λ clean. put_none (g.S.Store.view c.args.store.now) c.args.tree c.args.rows.now;
  quiet = quiet_itself c.args.store.now;
}

pub loop-row-preserved : goal.loop-row-preserved
loop-row-preserved g c =
    let start = g.S.Store.view c.args.store.now in
    let now = g.S.Store.view c.loop-row.store in
    let filled : c.fill_entry.new.entry ≡ entry_of c.row-item.result = search rules in
    record {
      front = λ clean. put_more start now (g.S.Store.view c.insert.new.self) c.args.tree c.loop-row.row-index c.args.rows.now c.row-item.result c.fill_entry.new.entry
          (c.loop-row.invariant.front (clean_before c.insert.ensures.quiet clean)) (c.in_ok-insert.ensures.ok clean) c.loop-row-test.true c.row-item.is filled;
      quiet = quiet_then c.loop-row.invariant.quiet c.insert.ensures.quiet;
    }
