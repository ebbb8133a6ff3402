use Rattle.su_exec.proofs.reducing.position_of.Given as goal

abbrev pub invariant-loop-p : goal.invariant-loop-p
invariant-loop-p l = Unit {0}
