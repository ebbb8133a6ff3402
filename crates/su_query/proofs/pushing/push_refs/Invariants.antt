use Rattle.std.proofs.Common.{◌≡◌, ◌++◌, take}
use Rattle.su_query.specs.ShownParts.{refs_symbols}
use Rattle.su_query.proofs.pushing.push_refs.Given as goal

abbrev pub invariant-loop-i : goal.invariant-loop-i
invariant-loop-i l = l.out ≡ l.fn.out ++ refs_symbols (take l.i l.references)
