use Rattle.std.proofs.Common.{◌≡◌, take}
use Rattle.su_chase.proofs.chasing.rows_of.Given as goal

abbrev pub invariant-loop-i : goal.invariant-loop-i
invariant-loop-i l = l.rows ≡ take l.i l.t.rows
