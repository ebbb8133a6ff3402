use Rattle.std.proofs.Common.{◌≡◌, false, take}
use Rattle.su_exec.specs.inside.Edges.{has}
use Rattle.su_exec.proofs.places.place_of.Given as goal

abbrev pub invariant-loop-p : goal.invariant-loop-p
invariant-loop-p l = has (take l.p l.vars) l.x ≡ false
