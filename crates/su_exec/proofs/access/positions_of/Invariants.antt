use Rattle.std.proofs.Common.{◌≤◌, length}
use Rattle.su_index.specs.Tables.{table_at}
use Rattle.su_exec.specs.inside.Ways.{AreOfCodes}
use Rattle.su_exec.proofs.access.positions_of.Given as goal

abbrev pub invariant-loop-i : goal.invariant-loop-i
invariant-loop-i g l = record {
  few : length l.positions.items ≤ l.most;
  listed : AreOfCodes (table_at (g.R.Rows.tables l.rows) l.table).rows l.column l.codes l.values.rows l.i l.positions.items;
}
