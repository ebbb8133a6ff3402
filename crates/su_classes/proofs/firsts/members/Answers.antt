-- The list has the members of the set below the next number, and each number is added where the set has it.
use Rattle.std.proofs.Common.{◌≡◌, ℕ, subst, arith}
use Rattle.su_classes.specs.inside.Firsts.{AreMembersBelow}
use Rattle.su_classes.proofs.Listed.{members_if}
use Rattle.su_classes.proofs.firsts.members.Goals as goal

pub loop-a-preserved : goal.loop-a-preserved
loop-a-preserved c = members_if c.args.set c.loop-a.a c.contains.result c.loop-a.list _ c.loop-a.invariant c.contains.ensures c.in_ok-push_if.ensures.ok

pub returns : goal.returns
returns c = let e : c.loop-a.a ≡ 128 = omega arith in subst (λ (n : ℕ). AreMembersBelow n c.args.set c.loop-a.list) e c.loop-a.invariant
