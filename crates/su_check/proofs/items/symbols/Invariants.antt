use Rattle.std.proofs.Common.{◌≡◌, ◌++◌, length, map, All}
use Rattle.su_check.specs.NodeSymbols.{sym_symbol}
use Rattle.su_check.specs.Ranges.{IsNamed}
use Rattle.su_check.proofs.items.symbols.Given as goal

abbrev pub invariant-loop-symbols : goal.invariant-loop-symbols
invariant-loop-symbols l = record {
  whole : l.fn.reader ≡ map sym_symbol l.symbols ++ l.reader;
  are : All IsNamed l.symbols;
}

abbrev pub decreases-loop-symbols : goal.decreases-loop-symbols
decreases-loop-symbols l = length l.reader
