use Rattle.std.proofs.Common.{◌≤◌, length, map}
use Rattle.su_window.specs.inside.Readings.{AreSoFar}
use Rattle.su_clash.specs.Clash.{reading_of}
use Rattle.su_clash.proofs.members.members_of.Given as goal

abbrev pub invariant-loop-object : goal.invariant-loop-object
invariant-loop-object l = AreSoFar l.db l.object 0 (map reading_of l.members) × (length l.members ≤ 20000)
