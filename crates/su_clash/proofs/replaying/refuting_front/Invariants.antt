use Rattle.std.proofs.Common.{take}
use Rattle.su_clash.specs.inside.Renames.{AreRenamesOf}
use Rattle.su_clash.proofs.Replayed.{FollowBelow}
use Rattle.su_clash.proofs.replaying.refuting_front.Given as goal

abbrev pub invariant-loop-i : goal.invariant-loop-i
invariant-loop-i l = record { below : FollowBelow l.fds l.rows l.steps l.i; are : AreRenamesOf l.fds l.rows (take l.i l.steps) l.renames }
