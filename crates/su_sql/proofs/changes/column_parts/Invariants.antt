use Rattle.std.proofs.Common.{◌≡◌, map, take}
use Rattle.su_sql.specs.Changes.{column_line}
use Rattle.su_sql.proofs.changes.column_parts.Given as goal

abbrev pub invariant-loop-column : goal.invariant-loop-column
invariant-loop-column l = l.parts ≡ map (column_line l.dialect) (take l.column-index l.columns)
