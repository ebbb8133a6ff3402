use Rattle.std.proofs.Common.{◌≡◌, ◌++◌, map, take}
use Rattle.su_ddl.specs.Grammar.{column_symbols}
use Rattle.su_ddl.specs.inside.Columns.{behind_commas}
use Rattle.su_ddl.proofs.spelling.push_more_columns.Given as goal

abbrev pub invariant-loop-column : goal.invariant-loop-column
invariant-loop-column l = l.out ≡ l.fn.out ++ behind_commas (map column_symbols (take l.column-index l.columns))
