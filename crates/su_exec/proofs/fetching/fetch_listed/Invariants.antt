use Rattle.std.proofs.Common.{◌≡◌, ◌≤◌, ◌+◌}
use Rattle.su_index.specs.Tables.{table_at}
use Rattle.su_exec.specs.inside.Coded.{IsGathered}
use Rattle.su_exec.specs.inside.Ways.{IsFromListed}
use Rattle.su_exec.proofs.fetching.fetch_listed.Given as goal

abbrev pub invariant-loop-position : goal.invariant-loop-position
invariant-loop-position g l = record {
  tables : g.R.Rows.tables l.rows ≡ g.R.Rows.tables l.fn.rows;
  fetches : g.R.Rows.fetches l.rows ≤ g.R.Rows.fetches l.fn.rows + l.position-index;
  width : l.out.rows.width ≡ l.fn.out.rows.width;
  gathered : IsGathered (IsFromListed l.aim.row.now.cells l.aim.shape.now.firsts.items l.aim.source.now.columns (table_at (g.R.Rows.tables l.fn.rows) l.aim.source.now.relation).rows l.positions l.position-index) (IsFromListed l.aim.row.now.cells l.aim.shape.now.firsts.items l.aim.source.now.columns (table_at (g.R.Rows.tables l.fn.rows) l.aim.source.now.relation).rows l.positions l.position-index) l.fn.codes l.fn.out.rows.rows l.codes l.out.rows.rows;
}
