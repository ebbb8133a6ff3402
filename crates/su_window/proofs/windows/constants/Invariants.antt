use Rattle.std.proofs.Common.{take}
use Rattle.su_window.specs.inside.Readings.{AreConstants}
use Rattle.su_window.proofs.windows.constants.Given as goal

abbrev pub invariant-loop-a : goal.invariant-loop-a
invariant-loop-a l = AreConstants l.names l.row (take l.a-index l.attributes) l.values
