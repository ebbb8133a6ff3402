use Rattle.su_exec.proofs.threes.cyclic.Given as goal

abbrev pub invariant-loop : goal.invariant-loop
invariant-loop l = Unit {0}
