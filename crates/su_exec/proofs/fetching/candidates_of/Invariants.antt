use Rattle.std.proofs.Common.{◌≡◌, ◌≤◌, ◌+◌, [], length, take}
use Rattle.std.specs.Prelude.{map, sum}
use Rattle.su_exec.specs.inside.Coded.{IsGathered}
use Rattle.su_exec.specs.Shares.{share}
use Rattle.su_exec.proofs.Sources.{AgreesBySources, IsOfSources}
use Rattle.su_exec.proofs.fetching.candidates_of.Given as goal

abbrev pub invariant-loop-source : goal.invariant-loop-source
invariant-loop-source g l = record {
  tables : g.R.Rows.tables l.rows ≡ g.R.Rows.tables l.fn.rows;
  fetches : g.R.Rows.fetches l.rows ≤ g.R.Rows.fetches l.fn.rows + sum (map (share (g.R.Rows.tables l.fn.rows) l.row.cells) (take l.source-index l.row.sources));
  width : l.out.rows.width ≡ length l.shape.firsts.items;
  gathered : IsGathered (IsOfSources (g.R.Rows.tables l.fn.rows) l.row l.shape.firsts.items l.source-index) (AgreesBySources (g.R.Rows.tables l.fn.rows) l.fn.codes l.edges l.row l.shape.firsts.items l.source-index) l.fn.codes [] l.codes l.out.rows.rows;
}
