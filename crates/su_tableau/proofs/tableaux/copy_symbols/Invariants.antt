use Rattle.std.proofs.Common.{◌≡◌, take}
use Rattle.su_tableau.proofs.tableaux.copy_symbols.Given as goal

abbrev pub invariant-loop-symbol : goal.invariant-loop-symbol
invariant-loop-symbol l = l.copied ≡ take l.symbol-index l.symbols
