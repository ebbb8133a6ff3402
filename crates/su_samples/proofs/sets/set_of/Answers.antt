-- The set has those of the numbers so far that are below 128: the next one is inserted, or it is no such number.
use Rattle.std.proofs.Common.{◌<◌, ◌+◌, get_or, false, sym, ap, subst, ◌∙◌, arith}
use Rattle.std.specs.Ordering.{nat_cmp}
use Rattle.std.specs.FinSet.{FinSet, contains, contains-empty}
use Rattle.std.proofs.lemmas.Bool.{true≢false}
use Rattle.su_samples.proofs.MadeSets.{IsMadeSoFar, so_far-insert, so_far-skip}
use Rattle.su_samples.proofs.sets.set_of.Goals as goal
use Rattle.su_samples.proofs.sets.set_of.Goals.{then-member-lt128, else-member-lt128}

pub loop-member-init : goal.loop-member-init
loop-member-init c = (
  λ a h. absurd (true≢false (sym h ∙ ap (λ (s : FinSet nat_cmp). contains s a) c.empty-all.ensures ∙ contains-empty nat_cmp a)),
  λ k d l. absurd (omega arith),
)

pub loop-member-preserved : goal.loop-member-preserved
loop-member-preserved c =
    let xs = c.args.members.now in
    let n = c.loop-member.member-index in
    elim c.if-member-lt128.branch [
      | then-member-lt128 w ↦ subst (λ (s : FinSet nat_cmp). IsMadeSoFar xs (n + 1) s) (sym (w.all-is ∙ w.insert-all.ensures)) (so_far-insert xs n 0 c.loop-member.all c.loop-member-test.true c.loop-member.invariant)
      | else-member-lt128 w ↦ subst (λ (s : FinSet nat_cmp). IsMadeSoFar xs (n + 1) s) (sym w.all-is) (so_far-skip xs n 0 c.loop-member.all c.loop-member-test.true (λ (l : get_or xs n 0 < 128). let f = w.if-member-lt128.false in omega arith) c.loop-member.invariant)
    ]
