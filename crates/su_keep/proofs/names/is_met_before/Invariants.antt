use Rattle.std.proofs.Common.{◌≡◌, take}
use Rattle.std.specs.List.{list_any}
use Rattle.su_schema.specs.Entries.{relation_names}
use Rattle.sqlite_trees.specs.Sound.{same_name as is_same_name}
use Rattle.su_keep.proofs.names.is_met_before.Given as goal

abbrev pub invariant-loop-r : goal.invariant-loop-r
invariant-loop-r l = l.is_met ≡ list_any (is_same_name l.name) (take l.r (relation_names l.schema))
