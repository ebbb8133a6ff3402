use Rattle.std.proofs.Common.{◌≡◌, map}
use Rattle.std.specs.List.{range_with_len}
use Rattle.su_sql.specs.Tables.{table_text}
use Rattle.su_sql.proofs.sources.table_parts.Given as goal

abbrev pub invariant-loop-number : goal.invariant-loop-number
invariant-loop-number l = l.parts ≡ map (table_text l.dialect l.schema l.tables) (range_with_len 0 l.number)
