use Rattle.library_keys.proofs.Shrinking.{IsShrunk}
use Rattle.library_keys.proofs.keys.key_of.Given as goal

abbrev pub invariant-loop-a : goal.invariant-loop-a
invariant-loop-a l = IsShrunk l.fds l.fn.all l.a l.key
