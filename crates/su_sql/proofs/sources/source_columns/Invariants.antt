use Rattle.std.proofs.Common.{◌≡◌, map}
use Rattle.std.specs.List.{range_with_len}
use Rattle.su_sql.specs.Tables.{source_column}
use Rattle.su_sql.proofs.sources.source_columns.Given as goal

abbrev pub invariant-loop-value : goal.invariant-loop-value
invariant-loop-value l = l.parts ≡ map (source_column l.dialect l.schema l.source) (range_with_len 0 l.value)
