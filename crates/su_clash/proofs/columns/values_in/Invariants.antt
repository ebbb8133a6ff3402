use Rattle.std.proofs.Common.{◌≡◌, take}
use Rattle.su_window.specs.inside.Readings.{values_in}
use Rattle.su_clash.proofs.columns.values_in.Given as goal

abbrev pub invariant-loop-column : goal.invariant-loop-column
invariant-loop-column l = l.values ≡ values_in (take l.column-index l.columns) l.row
