-- What is left has the set's members from the number on: at the end nothing is left, so all members are below it.
use Rattle.std.proofs.Common.{◌≡◌, IsTrue, inl, inr, sym, ap, subst, ◌∙◌, arith}
use Rattle.std.specs.Ordering.{nat_cmp}
use Rattle.std.specs.FinSet.{FinSet, contains, empty, insert, difference, contains-empty, members}
use Rattle.std.proofs.lemmas.Bool.{true≢false, cases_lt}
use Rattle.std.proofs.lemmas.Bool.Decides.{nat_tests}
use Rattle.su_samples.proofs.sets.is_below.Goals as goal

pub loop-a-preserved : goal.loop-a-preserved
loop-a-preserved c = λ n h l.
    let rest = c.loop-a.rest in
    let a = c.loop-a.a in
    let old : IsTrue (contains rest n) = c.loop-a.invariant n h (omega arith) in
    let is : c.minus-rest.result ≡ difference rest (insert empty a) = c.minus-rest.ensures ∙ ap (λ (t : FinSet nat_cmp). difference rest t) (c.insert.ensures ∙ ap (λ (t : FinSet nat_cmp). insert t a) c.empty.ensures) in
    let kept : IsTrue (contains (difference rest (insert empty a)) n) = grind (arith, nat_tests, members, old, l) in
    subst (λ (s : FinSet nat_cmp). IsTrue (contains s n)) (sym is) kept

pub returns : goal.returns
returns c = λ yes n h.
    elim (cases_lt n c.loop-a.a) [
      | inl below ↦ let end = c.loop-a.auto.a-end in let least = c.min-a-end.ensures in omega arith
      | inr from ↦ absurd (true≢false (sym (c.loop-a.invariant n h from) ∙ ap (λ (s : FinSet nat_cmp). contains s n) (c.is_empty.ensures.0 yes) ∙ contains-empty nat_cmp n))
    ]
