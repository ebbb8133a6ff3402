-- The k-th disjunct of a list of parts: of joined parts it stands in the first whose count it is below; of combined ones the place is divided by the number of combinations of the parts behind, which gives the place in the first part and in the others.
use Rattle.std.proofs.Common.{◌<◌, ◌≤◌, ◌/◌, ◌%◌, ℕ, sym, subst, length, rules, arith}
use Rattle.su_where.specs.declared.conditions.Condition.{the_lemmas}
use Rattle.su_where.specs.Disjunct.{form_of}
use Rattle.su_where.proofs.Disjunctive.{combined_split, combined_whole, all_plain, all_negated, any_plain, any_negated, carried}
use Rattle.su_where.proofs.forms.+push.Goals as goal

pub push_disjunct-push_joined-requires : goal.push_disjunct-push_joined-requires
push_disjunct-push_joined-requires t c =
    (search (rules, the_lemmas), carried _ _ c.args.k (all_negated c.args.cond.now c.in-All.parts c.as_slice.result.now c.args.negated c.in-All.is c.as_slice.ensures c.if-negated.true) c.requires.place c.requires.few)

pub push_disjunct-push_combined-requires : goal.push_disjunct-push_combined-requires
push_disjunct-push_combined-requires t c =
    (search (rules, the_lemmas), carried _ _ c.args.k (all_plain c.args.cond.now c.in-All.parts c.as_slice-else-negated.result.now c.args.negated c.in-All.is c.as_slice-else-negated.ensures c.if-negated.false) c.requires.place c.requires.few)

pub push_disjunct-push_combined-requires-then-negated-2 : goal.push_disjunct-push_combined-requires-then-negated-2
push_disjunct-push_combined-requires-then-negated-2 t c =
    (search (rules, the_lemmas), carried _ _ c.args.k (any_negated c.args.cond.now c.in-Any.parts c.as_slice-then-negated-2.result.now c.args.negated c.in-Any.is c.as_slice-then-negated-2.ensures c.if-negated-2.true) c.requires.place c.requires.few)

pub push_disjunct-push_joined-requires-else-negated-2 : goal.push_disjunct-push_joined-requires-else-negated-2
push_disjunct-push_joined-requires-else-negated-2 t c =
    (search (rules, the_lemmas), carried _ _ c.args.k (any_plain c.args.cond.now c.in-Any.parts c.as_slice-else-negated-2.result.now c.args.negated c.in-Any.is c.as_slice-else-negated-2.ensures c.if-negated-2.false) c.requires.place c.requires.few)

pub push_combined-nonzero_div-left : goal.push_combined-nonzero_div-left
push_combined-nonzero_div-left t c =
    let s = combined_split c.args.negated c.args.parts.now c.loop-part.part-index c.part-item.result c.count-total.result c.loop-part.total c.loop-part.left
    c.loop-part-test.true c.part-item.is c.count-total.ensures c.loop-part.invariant.total c.loop-part.invariant.place c.loop-part.invariant.few in
    subst (λ (q : ℕ). 0 < q) (sym s.behind) s.others

pub push_combined-push_disjunct-requires : goal.push_combined-push_disjunct-requires
push_combined-push_disjunct-requires t c =
    let s = combined_split c.args.negated c.args.parts.now c.loop-part.part-index c.part-item.result c.count-total.result c.loop-part.total c.loop-part.left
    c.loop-part-test.true c.part-item.is c.count-total.ensures c.loop-part.invariant.total c.loop-part.invariant.place c.loop-part.invariant.few in (
      search (rules, the_lemmas),
      (
        subst (λ (q : ℕ). c.loop-part.left / q < length (form_of c.part-item.result c.args.negated)) (sym s.behind) s.place,
        omega (arith, s.exact, s.own, c.loop-part.invariant.few),
      ),
    )

pub push_combined-nonzero_rem-left : goal.push_combined-nonzero_rem-left
push_combined-nonzero_rem-left t c =
    let s = combined_split c.args.negated c.args.parts.now c.loop-part.part-index c.part-item.result c.count-total.result c.loop-part.total c.loop-part.left
    c.loop-part-test.true c.part-item.is c.count-total.ensures c.loop-part.invariant.total c.loop-part.invariant.place c.loop-part.invariant.few in
    subst (λ (q : ℕ). 0 < q) (sym s.behind) s.others

pub push_combined-loop-part-preserved : goal.push_combined-loop-part-preserved
push_combined-loop-part-preserved t c =
    let s = combined_split c.args.negated c.args.parts.now c.loop-part.part-index c.part-item.result c.count-total.result c.loop-part.total c.loop-part.left
    c.loop-part-test.true c.part-item.is c.count-total.ensures c.loop-part.invariant.total c.loop-part.invariant.place c.loop-part.invariant.few in
    record {
      place = subst (λ (q : ℕ). c.loop-part.left % q < q) (sym s.behind) s.rest;
      few = subst (λ (q : ℕ). q ≤ 64) (sym s.behind) (omega (arith, s.fewer, c.loop-part.invariant.few));
      total = s.behind;
      whole = combined_whole c.args.negated c.args.parts.now c.loop-part.part-index c.part-item.result c.count-total.result c.loop-part.total c.loop-part.left _ _ _
          c.loop-part-test.true c.part-item.is s c.loop-part.invariant.whole c.in_ok-push_disjunct.ensures;
    }
