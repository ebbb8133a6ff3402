use Rattle.std.proofs.Common.{◌≡◌, ℕ, All, take}
use Rattle.su_tableau.specs.declared.symbols.Sym.{Sym}
use Rattle.su_tableau.specs.declared.symbols.Sym.TheVariants.{Var}
use Rattle.su_exec.specs.Tasks.{Occurs}
use Rattle.su_exec_tests.proofs.tests.all_occur.Given as goal

abbrev pub invariant-loop-symbol : goal.invariant-loop-symbol
invariant-loop-symbol l = All (λ (symbol : Sym). (k : ℕ) → symbol ≡ Var k → Occurs l.task k) (take l.symbol-index l.symbols)
