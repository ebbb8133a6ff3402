-- No other edge is in the sets of the cells so far; a set that meets the others shows that a variable is shared.
use Rattle.std.proofs.Common.{ℕ, true≢false, subst, sym, ◌∙◌, below_more}
use Rattle.std.specs.Ordering.{nat_cmp}
use Rattle.std.specs.FinSet.{FinSet}
use Rattle.su_base.specs.Sets.{set_at}
use Rattle.su_reduce.specs.inside.Partners.{In}
use Rattle.su_base.proofs.Subsets.{set_at_read}
use Rattle.su_reduce.proofs.MeetingSets.{apart, none_common}
use Rattle.su_reduce.proofs.sharing.is_alone.Goals as goal

pub returns-then-not-is_empty : goal.returns-then-not-is_empty
returns-then-not-is_empty c =
    let n = c.loop-set.set-index in
    let is = sym (set_at_read c.args.sets.now n c.set-item.result c.loop-set-test.true c.set-item.is) in (
      λ no. absurd (true≢false (sym no)),
      λ none. sym c.if-not-is_empty.true ∙ c.is_empty.ensures.1 (c.meet.ensures ∙ apart c.set-item.result c.args.others (λ j o i. none n j c.loop-set-test.true o (subst (λ (s : FinSet nat_cmp). In s j) is i))),
    )

pub loop-set-preserved : goal.loop-set-preserved
loop-set-preserved c = λ k j.
    let n = c.loop-set.set-index in
    let sets = c.args.sets.now in
    let is = sym (set_at_read sets n c.set-item.result c.loop-set-test.true c.set-item.is) in
    below_more (λ (k : ℕ). In c.args.others j → In (set_at sets k) j → ⊥) n (λ k l. c.loop-set.invariant k j l)
    (λ o i. none_common c.set-item.result c.args.others j (sym c.meet.ensures ∙ c.is_empty.ensures.0 c.if-not-is_empty.false) o (subst (λ (s : FinSet nat_cmp). In s j) (sym is) i)) k
