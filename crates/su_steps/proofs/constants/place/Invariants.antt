use Rattle.std.proofs.Common.{◌≡◌, ◌+◌, drop}
use Rattle.su_classes.specs.inside.Symbols.{constant_place}
use Rattle.su_steps.proofs.constants.place.Given as goal

abbrev pub invariant-loop-i : goal.invariant-loop-i
invariant-loop-i l = constant_place l.constants l.value ≡ l.i + constant_place (drop l.i l.constants) l.value
