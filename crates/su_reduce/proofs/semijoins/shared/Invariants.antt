use Rattle.su_reduce.specs.inside.Keys.{AreShared}
use Rattle.su_reduce.proofs.semijoins.shared.Given as goal

abbrev pub invariant-loop-p : goal.invariant-loop-p
invariant-loop-p l = AreShared l.left l.right l.p l.places.left l.places.right
