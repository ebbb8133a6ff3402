use Rattle.std.proofs.Common.{◌≡◌}
use Rattle.su_map.specs.Lists.{numbers_of}
use Rattle.su_answer.proofs.supporting.kept_rows.Given as goal

abbrev pub invariant-loop-i : goal.invariant-loop-i
invariant-loop-i l = l.numbers ≡ numbers_of l.set l.i
