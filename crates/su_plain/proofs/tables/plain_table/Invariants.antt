use Rattle.std.proofs.Common.{◌≡◌, take}
use Rattle.su_plain.proofs.tables.plain_table.Given as goal

abbrev pub invariant-loop-row : goal.invariant-loop-row
invariant-loop-row l = l.rows ≡ take l.row-index l.table.rows
