use Rattle.std.proofs.Common.{◌≡◌, ◌≤◌, ◌+◌, take}
use Rattle.std.specs.Prelude.{map, sum}
use Rattle.std.specs.List.{AllZip}
use Rattle.su_answer.specs.inside.Alone.{IsEdgeOf}
use Rattle.su_exec.specs.Shares.{row_share}
use Rattle.su_answer.proofs.alone.candidates.Given as goal

abbrev pub invariant-loop-row : goal.invariant-loop-row
invariant-loop-row g l = record {
  tables : g.R.Rows.tables l.rows ≡ g.R.Rows.tables l.fn.rows;
  fetches : g.R.Rows.fetches l.rows ≤ g.R.Rows.fetches l.fn.rows + sum (map (row_share (g.R.Rows.tables l.fn.rows)) (take l.row-index l.task.rows));
  edges : AllZip (IsEdgeOf (g.R.Rows.tables l.fn.rows)) (take l.row-index l.task.rows) l.edges;
}
