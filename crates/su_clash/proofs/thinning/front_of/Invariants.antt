use Rattle.std.proofs.Common.{◌≡◌, take}
use Rattle.su_clash.proofs.thinning.front_of.Given as goal

abbrev pub invariant-loop-i : goal.invariant-loop-i
invariant-loop-i l = l.front ≡ take l.i l.steps
