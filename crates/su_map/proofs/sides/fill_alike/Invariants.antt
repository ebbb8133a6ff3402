use Rattle.std.proofs.Common.{ℕ, ◌<◌}
use Rattle.su_map.specs.inside.Targets.{AreAlikeAt}
use Rattle.su_map.proofs.sides.fill_alike.Given as goal

abbrev pub invariant-loop-column : goal.invariant-loop-column
invariant-loop-column l = (c : ℕ) → c < l.column → AreAlikeAt l.to c l.alike
