-- The objects that are taken apart, or can't be, are the thinned ones.
use Rattle.std.proofs.Common.{◌≡◌, ◌∙◌, List, refl, sym, subst}
use Rattle.std.proofs.lemmas.Bool.{false≢true}
use Rattle.std.specs.Ordering.{nat_cmp}
use Rattle.std.specs.FinSet.{FinSet}
use Rattle.su_reduce.specs.Ears.{AreAcyclic, IsEarOrder}
use Rattle.su_advise.specs.Acyclic.{edges_of, IsTakenApart}
use Rattle.su_advise.specs.Breakers.{thinned}
use Rattle.su_advise.proofs.thinning.is_acyclic_without.Goals as goal

pub returns-in-Some : goal.returns-in-Some
returns-in-Some c =
    let same : c.as_slice.result.now ≡ thinned c.args.objects.now c.args.set = c.as_slice.ensures ∙ c.in_ok-fewer.ensures in
    let apart : IsTakenApart c.as_slice.result.now c.args.members c.in-Some.field-0 = rw c.in-Some.is at c.in_ok-ear_order.ensures in
    (λ yes. (apart.ears, subst (λ (os : List (FinSet nat_cmp)). IsEarOrder (edges_of os c.args.members) apart.ears) same apart.ears_are), λ acyclic. refl)

pub returns : goal.returns
returns c =
    let same : c.as_slice.result.now ≡ thinned c.args.objects.now c.args.set = c.as_slice.ensures ∙ c.in_ok-fewer.ensures in
    let none : AreAcyclic (edges_of c.as_slice.result.now c.args.members) → ⊥ = rw c.in-None.is at c.in_ok-ear_order.ensures in
    (λ no. absurd (false≢true no), λ acyclic. absurd (none (subst (λ (os : List (FinSet nat_cmp)). AreAcyclic (edges_of os c.args.members)) (sym same) acyclic)))
