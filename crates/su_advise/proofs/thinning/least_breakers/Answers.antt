-- The sets that are tried are those of these attributes, each behind its parts; so one that has one found within it is not least, and a breaker that has none is.
use Rattle.std.proofs.Common.{ℕ, ◌≡◌, ◌<◌, ◌↔◌, IsTrue, List, Contains, sym, subst, arith}
use Rattle.std.specs.Ordering.{nat_cmp}
use Rattle.std.specs.FinSet.{FinSet, contains, is_subset}
use Rattle.su_base.specs.Lists.{AreExactly}
use Rattle.su_advise.specs.inside.Extras.{AreLow}
use Rattle.su_advise.specs.inside.Subsets.{AreSubsetsOf}
use Rattle.su_advise.proofs.KeyRounds.{numbers_low, sets_of_free}
use Rattle.su_advise.proofs.BreakerRounds.{breakers_past, breakers_next, breakers_all, within_by, none_within}
use Rattle.su_advise.proofs.thinning.least_breakers.Goals as goal

-- the sets that are tried, by the numbers that they are made of
are_tried : (among : FinSet nat_cmp) (numbers read : List ℕ) (sets items : List (FinSet nat_cmp)) → AreLow among → AreExactly (λ a. (a < 128) × IsTrue (contains among a)) numbers → read ≡ numbers → AreSubsetsOf read sets → items ≡ sets → (s : FinSet nat_cmp) → Contains items s ↔ IsTrue (is_subset s among)
are_tried among numbers read sets items low exactly same subsets e s =
    sets_of_free among numbers items low exactly (subst (λ ts. AreSubsetsOf numbers ts) (sym e) (subst (λ (ns : List ℕ). AreSubsetsOf ns sets) same subsets)) s

pub subsets-requires-clause-below : goal.subsets-requires-clause-below
subsets-requires-clause-below c = rw c.as_slice.ensures (numbers_low _ _ c.in_ok-numbers.ensures.exactly)

pub subsets-requires-clause-ascend : goal.subsets-requires-clause-ascend
subsets-requires-clause-ascend c = rw c.as_slice.ensures c.in_ok-numbers.ensures.exactly.ascends

pub loop-tried-preserved-then-has_one_within : goal.loop-tried-preserved-then-has_one_within
loop-tried-preserved-then-has_one_within c =
    let are = are_tried c.args.among _ _ _ _ c.requires.low c.in_ok-numbers.ensures.exactly c.as_slice.ensures c.in_ok-sets.ensures c.as_slice-tried-items.ensures in
    let all : AreSubsetsOf c.as_slice.result.now c.as_slice-tried-items.result.now = subst (λ ts. AreSubsetsOf c.as_slice.result.now ts) (sym c.as_slice-tried-items.ensures) c.in_ok-sets.ensures in
    breakers_past _ _ _ _ are all.parts_first _ c.loop-tried-test.true _ c.loop-tried.invariant _ c.tried-item.is
    (within_by _ _ (rw c.as_slice-in-loop-tried.ensures at (sym c.if-has_one_within.ensures)))

pub loop-tried-preserved : goal.loop-tried-preserved
loop-tried-preserved c =
    let are = are_tried c.args.among _ _ _ _ c.requires.low c.in_ok-numbers.ensures.exactly c.as_slice.ensures c.in_ok-sets.ensures c.as_slice-tried-items.ensures in
    let all : AreSubsetsOf c.as_slice.result.now c.as_slice-tried-items.result.now = subst (λ ts. AreSubsetsOf c.as_slice.result.now ts) (sym c.as_slice-tried-items.ensures) c.in_ok-sets.ensures in
    breakers_next _ _ _ _ are all.parts_first _ c.loop-tried-test.true _ c.loop-tried.invariant _ c.tried-item.is
    (none_within _ _ (rw c.as_slice-in-loop-tried.ensures at (sym c.if-has_one_within.ensures))) _ _ c.in_ok-is_acyclic_without.ensures c.in_ok-push_if.ensures.ok

pub returns : goal.returns
returns c =
    let are = are_tried c.args.among _ _ _ _ c.requires.low c.in_ok-numbers.ensures.exactly c.as_slice.ensures c.in_ok-sets.ensures c.as_slice-tried-items.ensures in
    let all : AreSubsetsOf c.as_slice.result.now c.as_slice-tried-items.result.now = subst (λ ts. AreSubsetsOf c.as_slice.result.now ts) (sym c.as_slice-tried-items.ensures) c.in_ok-sets.ensures in
    breakers_all _ _ _ _ are all.parts_first _ _ (omega arith) c.loop-tried.invariant
