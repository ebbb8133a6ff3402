use Rattle.std.proofs.Common.{◌≡◌, IsTrue}
use Rattle.std.specs.FinSet.{contains}
use Rattle.su_schema.specs.SetMembers.{numbers_in}
use Rattle.su_advise.proofs.Passed.{AreBelow}
use Rattle.su_advise.proofs.needing.members.Given as goal

abbrev pub invariant-loop-a : goal.invariant-loop-a
invariant-loop-a l = record {
  list : l.list ≡ numbers_in l.fn.set l.a;
  exactly : AreBelow (λ a. IsTrue (contains l.fn.set a)) l.a l.list;
}
