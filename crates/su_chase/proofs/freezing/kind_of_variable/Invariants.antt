use Rattle.std.proofs.Common.{ℕ, ◌<◌, [], get_or, Contains}
use Rattle.su_tableau.specs.declared.symbols.Sym.TheVariants.{Var}
use Rattle.su_chase.proofs.freezing.kind_of_variable.Given as goal

abbrev pub invariant-loop-row : goal.invariant-loop-row
invariant-loop-row l = (i : ℕ) → i < l.row-index → ¬ Contains (get_or l.rows i []) (Var l.k)
