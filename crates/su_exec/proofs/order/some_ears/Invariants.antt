use Rattle.su_exec.proofs.order.some_ears.Given as goal

abbrev pub invariant-loop : goal.invariant-loop
invariant-loop l = Unit {0}
