use Rattle.std.proofs.Common.{◌≡◌}
use Rattle.su_map.specs.Lists.{numbers_of}
use Rattle.su_refute.proofs.writing.kept_rows.Given as goal

abbrev pub invariant-loop-row : goal.invariant-loop-row
invariant-loop-row l = l.kept ≡ numbers_of l.mask l.row
