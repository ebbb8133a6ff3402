use Rattle.std.proofs.Common.{◌≡◌, drop}
use Rattle.std.specs.List.{list_any}
use Rattle.su_schema.specs.Entries.{column_names}
use Rattle.sqlite_trees.specs.Sound.{same_name as is_same_name}
use Rattle.su_keep.proofs.names.is_met_among.Given as goal

abbrev pub invariant-loop-column : goal.invariant-loop-column
invariant-loop-column l = list_any (is_same_name l.name) (column_names (drop l.column-index l.columns)) ≡ list_any (is_same_name l.name) (column_names l.columns)
