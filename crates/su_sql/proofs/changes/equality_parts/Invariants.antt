use Rattle.std.proofs.Common.{◌≡◌, map}
use Rattle.std.specs.List.{range_with_len}
use Rattle.su_sql.specs.Changes.{equality_text}
use Rattle.su_sql.proofs.changes.equality_parts.Given as goal

abbrev pub invariant-loop-column : goal.invariant-loop-column
invariant-loop-column l = l.parts ≡ map (equality_text l.dialect l.schema l.relation l.row) (range_with_len 0 l.column)
