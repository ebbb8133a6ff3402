use Rattle.std.proofs.Common.{◌≡◌, ℕ, All, take}
use Rattle.su_tableau.specs.declared.symbols.Sym.TheVariants.{Var}
use Rattle.su_exec.specs.declared.tasks.Compared.{Compared}
use Rattle.su_exec.specs.Tasks.{Occurs}
use Rattle.su_exec_tests.proofs.tests.compared_occur.Given as goal

abbrev pub invariant-loop-compared : goal.invariant-loop-compared
invariant-loop-compared l = All (λ (c : Compared). ((k : ℕ) → c.left ≡ Var k → Occurs l.task k) × ((k : ℕ) → c.right ≡ Var k → Occurs l.task k)) (take l.compared-index l.comparisons)
