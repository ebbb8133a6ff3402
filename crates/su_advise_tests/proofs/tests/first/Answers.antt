-- Each object is less than the one behind it.
use Rattle.std.proofs.Common.{◌≡◌, true, inl, inr, ap, sym, ◌∙◌, arith}
use Rattle.std.specs.FinSet.{contains, insert, members, contains-empty}
use Rattle.std.specs.Ordering.{nat_cmp}
use Rattle.std.proofs.lemmas.Bool.{cases_eq, false≢true}
use Rattle.std.proofs.lemmas.Bool.Decides.{nat_tests}
use Rattle.su_advise_tests.proofs.tests.first.Goals as goal

pub loop-o-init : goal.loop-o-init
loop-o-init c = λ k one. absurd (false≢true (sym (contains-empty nat_cmp k) ∙ ap (λ z. contains z k) (sym c.empty-all.ensures) ∙ one))

pub loop-o-preserved : goal.loop-o-preserved
loop-o-preserved c = λ k one.
    let at : contains (insert c.loop-o.all c.loop-o.o) k ≡ true = ap (λ z. contains z k) (sym c.insert-all.ensures) ∙ one in
    elim (cases_eq k c.loop-o.o) [
      | inl same ↦ omega (arith, same)
      | inr other ↦ let there : contains c.loop-o.all k ≡ true = grind (arith, members, nat_tests, at, other) in omega (arith, c.loop-o.invariant k there)
    ]
