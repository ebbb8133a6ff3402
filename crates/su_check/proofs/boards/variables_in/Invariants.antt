use Rattle.std.proofs.Common.{◌<◌, ℕ, [], get_or, Contains}
use Rattle.su_tableau.specs.declared.symbols.Sym.TheVariants.{Var}
use Rattle.su_tableau.specs.Tableaux.{Occurs}
use Rattle.su_check.proofs.boards.variables_in.Given as goal

abbrev pub invariant-loop-row : goal.invariant-loop-row
invariant-loop-row l = record {
  all : (k i : ℕ) → i < l.row-index → Contains (get_or l.rows i []) (Var k) → Contains l.variables k;
  only : (k : ℕ) → Contains l.variables k → Occurs l.rows k;
}
