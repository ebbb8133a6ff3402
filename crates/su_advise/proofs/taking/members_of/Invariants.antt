use Rattle.std.proofs.Common.{◌≡◌}
use Rattle.su_schema.specs.SetMembers.{numbers_in}
use Rattle.su_advise.proofs.taking.members_of.Given as goal

abbrev pub invariant-loop-o : goal.invariant-loop-o
invariant-loop-o l = l.list ≡ numbers_in l.fn.set l.o
