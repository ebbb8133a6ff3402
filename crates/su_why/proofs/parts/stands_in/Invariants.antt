use Rattle.std.proofs.Common.{◌<◌, ℕ, get_or, Contains}
use Rattle.su_tableau.specs.declared.symbols.Sym.TheVariants.{Var}
use Rattle.su_exec.specs.declared.tasks.TaskRow.{TaskRow}
use Rattle.su_why.proofs.parts.stands_in.Given as goal

abbrev pub invariant-loop-i : goal.invariant-loop-i
invariant-loop-i l = (j : ℕ) (d : TaskRow) → j < l.i → Contains (get_or l.rows j d).cells (Var l.k) → ⊥
