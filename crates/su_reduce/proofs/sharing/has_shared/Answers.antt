-- For each cell so far whose variable another edge has, p has it too; a set that meets the others without p is what tells against it.
use Rattle.std.proofs.Common.{ℕ, true≢false, subst, sym, ◌∙◌, below_more}
use Rattle.std.specs.Ordering.{nat_cmp}
use Rattle.std.specs.FinSet.{FinSet}
use Rattle.su_base.specs.Sets.{set_at}
use Rattle.su_reduce.specs.inside.Partners.{In}
use Rattle.su_base.proofs.Subsets.{set_at_read}
use Rattle.su_reduce.proofs.MeetingSets.{apart, none_common}
use Rattle.su_reduce.proofs.sharing.has_shared.Goals as goal
use Rattle.su_reduce.proofs.sharing.has_shared.Goals.{else-not-contains-via-then-not-contains+else-not-is_empty, else-not-contains-via-else-not-contains}

pub returns-then-not-is_empty : goal.returns-then-not-is_empty
returns-then-not-is_empty c =
    let n = c.loop-set.set-index in
    let is = sym (set_at_read c.args.sets.now n c.set-item.result c.loop-set-test.true c.set-item.is) in (
      λ no. absurd (true≢false (sym no)),
      λ all. sym c.if-not-is_empty.true ∙ c.is_empty.ensures.1 (c.meet.ensures ∙ apart c.set-item.result c.args.others (λ j o i.
          let has : In (set_at c.args.sets.now n) c.args.p = all n j c.loop-set-test.true o (subst (λ (s : FinSet nat_cmp). In s j) is i) in
          true≢false (sym (subst (λ (s : FinSet nat_cmp). In s c.args.p) (sym is) has) ∙ (sym c.contains.ensures ∙ c.if-not-contains.true)))),
    )

pub loop-set-preserved : goal.loop-set-preserved
loop-set-preserved c =
    let n = c.loop-set.set-index in
    let sets = c.args.sets.now in
    let is = sym (set_at_read sets n c.set-item.result c.loop-set-test.true c.set-item.is) in
    elim c.else-not-contains.branch [
      | else-not-contains-via-then-not-contains+else-not-is_empty w ↦ λ k j.
          below_more (λ (k : ℕ). In c.args.others j → In (set_at sets k) j → In (set_at sets k) c.args.p) n (λ k l. c.loop-set.invariant k j l)
          (λ o i. absurd (none_common c.set-item.result c.args.others j (sym w.meet.ensures ∙ w.is_empty.ensures.0 w.if-not-is_empty.false) o (subst (λ (s : FinSet nat_cmp). In s j) (sym is) i))) k
      | else-not-contains-via-else-not-contains w ↦ λ k j.
          below_more (λ (k : ℕ). In c.args.others j → In (set_at sets k) j → In (set_at sets k) c.args.p) n (λ k l. c.loop-set.invariant k j l)
          (λ o i. subst (λ (s : FinSet nat_cmp). In s c.args.p) is (sym c.contains.ensures ∙ w.if-not-contains.false)) k
    ]
