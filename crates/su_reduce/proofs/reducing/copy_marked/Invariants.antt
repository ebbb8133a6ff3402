use Rattle.std.proofs.Common.{◌≡◌, take}
use Rattle.su_reduce.specs.Left.{marked}
use Rattle.su_reduce.proofs.reducing.copy_marked.Given as goal

abbrev pub invariant-loop-p : goal.invariant-loop-p
invariant-loop-p l = l.copies ≡ marked (take l.p l.marks) (take l.p l.rows)
