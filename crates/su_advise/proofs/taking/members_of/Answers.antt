-- The list has the members below the next, and each comes to the end where it is one.
use Rattle.std.proofs.Common.{ℕ, ◌≡◌, ◌<◌, ◌∙◌, List, All, length, ap, sym, subst, arith}
use Rattle.std.specs.FinSet.{contains}
use Rattle.su_base.proofs.PassingNumbers.{passing_push}
use Rattle.su_schema.specs.SetMembers.{numbers_in}
use Rattle.su_advise.proofs.Readings.{members_low, members_few}
use Rattle.su_advise.proofs.taking.members_of.Goals as goal

pub loop-o-preserved : goal.loop-o-preserved
loop-o-preserved c = passing_push (contains c.args.set) c.loop-o.o _ _ _ c.loop-o.invariant c.contains.ensures c.in_ok-push_if.ensures.ok

pub returns-clause-members : goal.returns-clause-members
returns-clause-members c = let end : c.loop-o.o ≡ length c.args.objects.now = omega arith in c.loop-o.invariant ∙ ap (λ (n : ℕ). numbers_in c.args.set n) end

pub returns-clause-in_range : goal.returns-clause-in_range
returns-clause-in_range c =
    let end : c.loop-o.o ≡ length c.args.objects.now = omega arith in
    subst (λ (n : ℕ). All (λ o. o < n) c.loop-o.list) end (subst (λ (l : List ℕ). All (λ o. o < c.loop-o.o) l) (sym c.loop-o.invariant) (members_low c.args.set c.loop-o.o))

pub returns-clause-few : goal.returns-clause-few
returns-clause-few c = let same = ap length c.loop-o.invariant in let few = members_few c.args.set c.loop-o.o in omega arith
