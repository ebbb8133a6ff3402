use Rattle.std.proofs.Common.{ℕ, ◌<◌, ◌≤◌}
use Rattle.su_classes.specs.Tables.{rep}
use Rattle.su_steps.proofs.classes.Classes.clash.Given as goal

abbrev pub invariant-loop-i : goal.invariant-loop-i
invariant-loop-i l = (k : ℕ) → k < l.i → k ≤ rep l.self.table.items k
