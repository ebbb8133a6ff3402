use Rattle.std.proofs.Common.{◌≡◌, ℕ, ◌<◌}
use Rattle.su_classes.specs.Tables.{rep}
use Rattle.su_classes.specs.inside.Tables.{IsShortened}
use Rattle.su_classes.proofs.tables.flatten.Given as goal

abbrev pub invariant-loop-i : goal.invariant-loop-i
invariant-loop-i l = record {
  shortened : IsShortened l.fn.table l.table;
  flat : (k : ℕ) → k < l.i → rep l.table (rep l.table k) ≡ rep l.table k;
}
