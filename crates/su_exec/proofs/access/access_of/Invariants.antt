use Rattle.std.proofs.Common.{◌≤◌}
use Rattle.su_exec.specs.Shares.{share}
use Rattle.su_exec.specs.inside.Ways.{IsWay}
use Rattle.su_exec.proofs.access.access_of.Given as goal

abbrev pub invariant-loop-p : goal.invariant-loop-p
invariant-loop-p g l = record {
  way : IsWay (g.R.Rows.tables l.rows) l.known.codes.now l.known.edges.now l.row l.source l.best.way l.best.cost;
  few : l.best.cost ≤ share (g.R.Rows.tables l.rows) l.row.cells l.source;
}
