use Rattle.std.proofs.Common.{◌≡◌, take}
use Rattle.su_exec.specs.inside.Shown.{term_vars}
use Rattle.su_exec.proofs.executing.variables_of.Given as goal

abbrev pub invariant-loop-term : goal.invariant-loop-term
invariant-loop-term l = l.vars.items ≡ term_vars (take l.term-index l.terms)
