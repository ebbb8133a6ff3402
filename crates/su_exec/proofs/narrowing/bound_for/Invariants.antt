use Rattle.su_exec.proofs.narrowing.bound_for.Given as goal

abbrev pub invariant-loop-edge : goal.invariant-loop-edge
invariant-loop-edge l = Unit {0}
