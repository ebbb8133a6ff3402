use Rattle.std.proofs.Common.{◌≡◌, take}
use Rattle.su_steps.specs.PairSymbols.{comparisons}
use Rattle.su_steps.specs.inside.Numbers.{equals}
use Rattle.su_steps.proofs.constants.equalities.Given as goal

abbrev pub invariant-loop-literal : goal.invariant-loop-literal
invariant-loop-literal l = l.equal ≡ equals l.constants (comparisons l.n l.places (take l.literal-index l.disjunct))
