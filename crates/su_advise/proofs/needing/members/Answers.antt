-- The list has the members below the next, and each comes to the end where it is one.
use Rattle.std.proofs.Common.{ℕ, ◌≡◌, ◌∙◌, ap, IsTrue, arith}
use Rattle.std.specs.FinSet.{contains}
use Rattle.su_schema.specs.SetMembers.{numbers_in}
use Rattle.su_base.proofs.PassingNumbers.{passing_push}
use Rattle.su_advise.proofs.Passed.{passed_none, passed_next, passed_all, equally}
use Rattle.su_advise.proofs.needing.members.Goals as goal

pub loop-a-init : goal.loop-a-init
loop-a-init c = record { list = c.new-list.ensures; exactly = passed_none _ _ c.new-list.ensures }

pub loop-a-preserved : goal.loop-a-preserved
loop-a-preserved c = record {
  list = passing_push (contains c.args.set) c.loop-a.a _ _ _ c.loop-a.invariant.list c.contains.ensures c.in_ok-push_if.ensures.ok;
  exactly = passed_next _ _ _ _ _ (equally _ _ c.contains.ensures) c.loop-a.invariant.exactly c.in_ok-push_if.ensures.ok;
}

pub returns-clause-list : goal.returns-clause-list
returns-clause-list c = let end : c.loop-a.a ≡ 128 = omega arith in c.loop-a.invariant.list ∙ ap (λ (n : ℕ). numbers_in c.args.set n) end

pub returns-clause-exactly : goal.returns-clause-exactly
returns-clause-exactly c = passed_all (λ a. IsTrue (contains c.args.set a)) _ _ _ (omega arith) c.loop-a.invariant.exactly
