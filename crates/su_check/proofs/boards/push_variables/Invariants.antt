use Rattle.std.proofs.Common.{◌≡◌, ◌<◌, ◌⊎◌, ℕ, get_or, Contains}
use Rattle.su_tableau.specs.declared.symbols.Sym.TheVariants.{Var}
use Rattle.su_check.proofs.boards.push_variables.Given as goal

abbrev pub invariant-loop-x : goal.invariant-loop-x
invariant-loop-x l = record {
  old : (k : ℕ) → Contains l.initial.out k → Contains l.out k;
  row : (k i : ℕ) → i < l.x-index → get_or l.row i (Var k) ≡ Var k → Contains l.out k;
  only : (k : ℕ) → Contains l.out k → Contains l.initial.out k ⊎ Contains l.row (Var k);
}
