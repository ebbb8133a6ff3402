use Rattle.std.proofs.Common.{◌≡◌, ◌+◌, take}
use Rattle.su_keep.specs.Listed.{rows_to}
use Rattle.su_keep.proofs.reading.check_tables.Given as goal

abbrev pub invariant-loop-r : goal.invariant-loop-r
invariant-loop-r l = take (l.r + 1) l.objects ≡ rows_to l.schema l.r
