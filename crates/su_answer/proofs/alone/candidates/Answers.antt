-- The edges so far are those of the rows so far, one for each, and what was fetched is at most their shares.
use Rattle.std.proofs.Common.{◌≡◌, ◌<◌, ◌≤◌, ◌+◌, List, length, get_or, sym, ap, subst, ◌∙◌}
use Rattle.su_base.proofs.Items.{AllZip-more}
use Rattle.su_rel.specs.Stored.{Stored}
use Rattle.su_reduce.specs.declared.edges.Edge.{Edge}
use Rattle.su_exec.specs.declared.tasks.TaskRow.{TaskRow}
use Rattle.su_exec.specs.Tasks.{HasSources}
use Rattle.su_exec.specs.Shares.{row_share}
use Rattle.su_answer.specs.inside.Alone.{AreCountable, IsEdgeOf}
use Rattle.su_answer.proofs.Single.{one_more_share, all_shares}
use Rattle.su_answer.proofs.alone.candidates.Goals as goal

pub edge_of-requires-clause-sources : goal.edge_of-requires-clause-sources
edge_of-requires-clause-sources g c =
    let T : List Stored = g.R.Rows.tables c.args.rows.now in
    let rows = c.args.task.now.rows in
    let row : TaskRow = c.row-item.result in
    let i = c.loop-row.row-index in
    let low : i < length rows = subst (λ (xs : List TaskRow). i < length xs) c.as_slice-list.ensures c.loop-row-test.true in
    let at : row ≡ get_or rows i row = c.row-item.is ∙ ap (λ (xs : List TaskRow). get_or xs i row) c.as_slice-list.ensures in
    subst (λ (ts : List Stored). HasSources ts row) (sym c.loop-row.invariant.tables) (subst (HasSources T) (sym at) (c.requires.task.sources i row low))

pub edge_of-requires-clause-countable : goal.edge_of-requires-clause-countable
edge_of-requires-clause-countable g c =
    let T : List Stored = g.R.Rows.tables c.args.rows.now in
    let rows = c.args.task.now.rows in
    let row : TaskRow = c.row-item.result in
    let i = c.loop-row.row-index in
    let low : i < length rows = subst (λ (xs : List TaskRow). i < length xs) c.as_slice-list.ensures c.loop-row-test.true in
    let at : row ≡ get_or rows i row = c.row-item.is ∙ ap (λ (xs : List TaskRow). get_or xs i row) c.as_slice-list.ensures in
    subst (λ (ts : List Stored). AreCountable ts row) (sym c.loop-row.invariant.tables) (subst (AreCountable T) (sym at) (c.requires.countable i row low))

pub loop-row-preserved : goal.loop-row-preserved
loop-row-preserved g c =
    let T : List Stored = g.R.Rows.tables c.args.rows.now in
    let rows = c.args.task.now.rows in
    let row : TaskRow = c.row-item.result in
    let i = c.loop-row.row-index in
    let low : i < length rows = subst (λ (xs : List TaskRow). i < length xs) c.as_slice-list.ensures c.loop-row-test.true in
    let at : row ≡ get_or rows i row = c.row-item.is ∙ ap (λ (xs : List TaskRow). get_or xs i row) c.as_slice-list.ensures in
    let edge : Edge = c.in_ok-edge.edge in
    record {
      tables = c.in_ok-edge.ensures.tables ∙ c.loop-row.invariant.tables;
      fetches = one_more_share T rows i row (g.R.Rows.fetches c.args.rows.now) (g.R.Rows.fetches c.loop-row.rows) (g.R.Rows.fetches c.edge_of.new.rows) at low c.loop-row.invariant.fetches
          (subst (λ (ts : List Stored). g.R.Rows.fetches c.edge_of.new.rows ≤ g.R.Rows.fetches c.loop-row.rows + row_share ts row) c.loop-row.invariant.tables c.in_ok-edge.ensures.fetches);
      edges = AllZip-more (IsEdgeOf T) rows c.loop-row.edges c.push.new.self i row edge low at c.loop-row.invariant.edges (subst (λ (ts : List Stored). IsEdgeOf ts row edge) c.loop-row.invariant.tables c.in_ok-edge.ensures.edge) c.in_ok-push.ensures.ok;
    }

pub returns-in_err-edge-clause-fetches : goal.returns-in_err-edge-clause-fetches
returns-in_err-edge-clause-fetches g c =
    let T : List Stored = g.R.Rows.tables c.args.rows.now in
    let rows = c.args.task.now.rows in
    let row : TaskRow = c.row-item.result in
    let i = c.loop-row.row-index in
    let old = g.R.Rows.fetches c.args.rows.now in
    let before = g.R.Rows.fetches c.loop-row.rows in
    let after = g.R.Rows.fetches c.edge_of.new.rows in
    let low : i < length rows = subst (λ (xs : List TaskRow). i < length xs) c.as_slice-list.ensures c.loop-row-test.true in
    let at : row ≡ get_or rows i row = c.row-item.is ∙ ap (λ (xs : List TaskRow). get_or xs i row) c.as_slice-list.ensures in
    all_shares T rows (i + 1) old after (one_more_share T rows i row old before after at low c.loop-row.invariant.fetches (subst (λ (ts : List Stored). after ≤ before + row_share ts row) c.loop-row.invariant.tables c.in_err-edge.ensures.fetches))

pub returns-in_err-push-clause-fetches : goal.returns-in_err-push-clause-fetches
returns-in_err-push-clause-fetches g c =
    let T : List Stored = g.R.Rows.tables c.args.rows.now in
    let rows = c.args.task.now.rows in
    let row : TaskRow = c.row-item.result in
    let i = c.loop-row.row-index in
    let old = g.R.Rows.fetches c.args.rows.now in
    let before = g.R.Rows.fetches c.loop-row.rows in
    let after = g.R.Rows.fetches c.edge_of.new.rows in
    let low : i < length rows = subst (λ (xs : List TaskRow). i < length xs) c.as_slice-list.ensures c.loop-row-test.true in
    let at : row ≡ get_or rows i row = c.row-item.is ∙ ap (λ (xs : List TaskRow). get_or xs i row) c.as_slice-list.ensures in
    all_shares T rows (i + 1) old after (one_more_share T rows i row old before after at low c.loop-row.invariant.fetches (subst (λ (ts : List Stored). after ≤ before + row_share ts row) c.loop-row.invariant.tables c.in_ok-edge.ensures.fetches))
