use Rattle.std.proofs.Common.{◌≡◌, ◌++◌, map, take}
use Rattle.su_check.specs.NodeSymbols.{sym_symbol}
use Rattle.su_refute.proofs.symbols.push_syms.Given as goal

abbrev pub invariant-loop-x : goal.invariant-loop-x
invariant-loop-x l = l.out ≡ l.fn.out ++ map sym_symbol (take l.x-index l.xs)
