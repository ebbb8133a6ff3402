use Rattle.std.proofs.Common.{◌≡◌, ℕ, ◌<◌, get_or}
use Rattle.su_tableau.specs.declared.symbols.Sym.TheVariants.{Var}
use Rattle.su_tableau.specs.Tableaux.{Occurs}
use Rattle.su_tableau.proofs.rules.all_occur.Given as goal

abbrev pub invariant-loop-x : goal.invariant-loop-x
invariant-loop-x l = (k i : ℕ) → i < l.x-index → get_or l.head i (Var k) ≡ Var k → Occurs l.rows k
