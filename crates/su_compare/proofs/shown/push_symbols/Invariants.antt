use Rattle.std.proofs.Common.{◌≡◌, ◌++◌, take}
use Rattle.su_compare.specs.inside.Settlements.{constants_in}
use Rattle.su_compare.proofs.shown.push_symbols.Given as goal

abbrev pub invariant-loop-x : goal.invariant-loop-x
invariant-loop-x l = l.constants ≡ l.fn.constants ++ constants_in (take l.x-index l.symbols)
