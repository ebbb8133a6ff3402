use Rattle.std.specs.List.{AllZip}
use Rattle.su_map.specs.Lists.{numbers_of}
use Rattle.su_answer.specs.Joined.{IsTaskRowOf}
use Rattle.su_answer.proofs.tasks.rows_of.Given as goal

abbrev pub invariant-loop-i : goal.invariant-loop-i
invariant-loop-i l = AllZip (IsTaskRowOf l.schema l.t l.mask) (numbers_of l.mask l.i) l.rows
