use Rattle.std.proofs.Common.{◌≤◌, length}
use Rattle.su_window.specs.inside.Readings.{AreSoFar}
use Rattle.su_window.proofs.readings.readings_of.Given as goal

abbrev pub invariant-loop-object : goal.invariant-loop-object
invariant-loop-object l = AreSoFar l.db l.object 0 l.readings × (length l.readings ≤ 20000)
