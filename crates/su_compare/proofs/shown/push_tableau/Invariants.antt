use Rattle.std.proofs.Common.{◌≡◌, ◌++◌, flat_map, take}
use Rattle.su_compare.specs.inside.Settlements.{constants_in}
use Rattle.su_compare.proofs.shown.push_tableau.Given as goal

abbrev pub invariant-loop-i : goal.invariant-loop-i
invariant-loop-i l = l.constants ≡ (l.fn.constants ++ constants_in l.t.head) ++ flat_map constants_in (take l.i l.t.rows)
