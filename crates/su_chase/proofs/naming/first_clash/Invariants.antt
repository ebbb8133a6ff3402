use Rattle.su_chase.specs.inside.Rows.{IsFirstClash}
use Rattle.su_chase.proofs.naming.first_clash.Given as goal

abbrev pub invariant-loop-i : goal.invariant-loop-i
invariant-loop-i l = IsFirstClash l.i l.table l.found
