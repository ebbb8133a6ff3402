use Rattle.std.proofs.Common.{◌≡◌, map}
use Rattle.std.specs.List.{range_with_len}
use Rattle.su_sql.specs.Names.{column_text}
use Rattle.su_sql.proofs.changes.shown_parts.Given as goal

abbrev pub invariant-loop-column : goal.invariant-loop-column
invariant-loop-column l = l.parts ≡ map (column_text l.dialect l.schema l.relation) (range_with_len 0 l.column)
