use Rattle.std.proofs.Common.{◌≡◌, ℕ, ◌+◌, ◌<◌, length, get_or}
use Rattle.su_tableau.specs.declared.symbols.Sym.TheVariants.{Var}
use Rattle.su_classes.specs.Tables.{rep}
use Rattle.su_classes.specs.Symbols.{symbol_at}
use Rattle.su_chase.proofs.naming.names_of.Given as goal

abbrev pub invariant-loop-k : goal.invariant-loop-k
invariant-loop-k l = record {
  each : length l.names ≡ l.k;
  names : (j : ℕ) → j < l.k → get_or l.names j (Var j) ≡ symbol_at l.constants (rep l.table (length l.constants + j));
}
