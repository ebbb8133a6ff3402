use Rattle.std.proofs.Common.{◌≡◌, map}
use Rattle.std.specs.List.{range_with_len}
use Rattle.su_schema.specs.Entries.{column_of}
use Rattle.su_window.specs.Padded.{object_at}
use Rattle.su_clash.proofs.columns.columns_of.Given as goal

abbrev pub invariant-loop-a : goal.invariant-loop-a
invariant-loop-a l = l.columns ≡ map (column_of (object_at l.schema l.object)) (range_with_len 0 l.a)
