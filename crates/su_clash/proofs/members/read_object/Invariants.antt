use Rattle.std.proofs.Common.{◌↔◌, ◌≤◌, List, length, map, Contains}
use Rattle.su_base.specs.declared.values.Value.{Value}
use Rattle.su_window.specs.inside.Readings.{lists_before, AreSoFar}
use Rattle.su_clash.specs.Clash.{reading_of}
use Rattle.su_clash.proofs.members.read_object.Given as goal

abbrev pub invariant-loop-position : goal.invariant-loop-position
invariant-loop-position l = ((x : List Value) → Contains l.seen.keys x ↔ Contains (lists_before l.db l.object l.position) x) × AreSoFar l.db l.object l.position (map reading_of l.members) × (length l.members ≤ 20000)
