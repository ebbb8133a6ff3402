use Rattle.std.proofs.Common.{◌≡◌, map, take}
use Rattle.su_samples.specs.Tableaux.{symbol_of}
use Rattle.su_samples.proofs.tableaux.symbols.Given as goal

abbrev pub invariant-loop-number : goal.invariant-loop-number
invariant-loop-number l = l.symbols ≡ map symbol_of (take l.number-index l.numbers)
