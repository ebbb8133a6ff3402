use Rattle.std.proofs.Common.{◌≡◌, ◌++◌, map, take}
use Rattle.su_check.specs.NodeSymbols.{number}
use Rattle.su_refute.proofs.symbols.push_numbers.Given as goal

abbrev pub invariant-loop-n : goal.invariant-loop-n
invariant-loop-n l = l.out ≡ l.fn.out ++ map number (take l.n-index l.numbers)
