use Rattle.std.proofs.Common.{◌≡◌, ◌≤◌, ◌+◌, length}
use Rattle.su_exec.specs.Shares.{task_share}
use Rattle.su_exec.proofs.RemainingRows.{AreSoFar, left_share}
use Rattle.su_exec.proofs.fetching.fetch_rows.Given as goal

abbrev pub invariant-loop-alloc : goal.invariant-loop-alloc
invariant-loop-alloc g l = record {
  tables : g.R.Rows.tables l.rows ≡ g.R.Rows.tables l.fn.rows;
  fetches : g.R.Rows.fetches l.rows + left_share (g.R.Rows.tables l.fn.rows) l.task l.left.items ≤ g.R.Rows.fetches l.fn.rows + task_share (g.R.Rows.tables l.fn.rows) l.task;
  so_far : AreSoFar (g.R.Rows.tables l.fn.rows) l.codes l.task l.edges.items l.left.items;
}

abbrev pub decreases-loop-alloc : goal.decreases-loop-alloc
decreases-loop-alloc g l = length l.left.items
