use Rattle.std.proofs.Common.{◌≡◌, map, take}
use Rattle.su_sql.specs.TermSelects.{table_of}
use Rattle.su_sql.proofs.making.tables_of.Given as goal

abbrev pub invariant-loop-row : goal.invariant-loop-row
invariant-loop-row l = l.tables ≡ map table_of (take l.row-index l.rows)
