use Rattle.std.proofs.Common.{◌≡◌, take}
use Rattle.su_plain.proofs.tables.plain_tables.Given as goal

abbrev pub invariant-loop-table : goal.invariant-loop-table
invariant-loop-table l = l.plain ≡ take l.table-index l.tables
