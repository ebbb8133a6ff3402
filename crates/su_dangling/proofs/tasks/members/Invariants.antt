use Rattle.std.proofs.Common.{◌≡◌}
use Rattle.su_schema.specs.SetMembers.{numbers_in}
use Rattle.su_dangling.proofs.tasks.members.Given as goal

abbrev pub invariant-loop-a : goal.invariant-loop-a
invariant-loop-a l = l.numbers ≡ numbers_in l.set l.a
