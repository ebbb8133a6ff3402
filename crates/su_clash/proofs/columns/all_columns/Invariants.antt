use Rattle.std.proofs.Common.{◌≡◌, map}
use Rattle.std.specs.List.{range_with_len}
use Rattle.su_window.specs.inside.Readings.{columns_of}
use Rattle.su_clash.proofs.columns.all_columns.Given as goal

abbrev pub invariant-loop-object : goal.invariant-loop-object
invariant-loop-object l = l.all ≡ map (columns_of l.schema) (range_with_len 0 l.object)
