-- The members of both are those of the relation that are in the closure.
use Rattle.std.proofs.Common.{IsTrue, sym, subst, arith}
use Rattle.std.specs.Ordering.{nat_cmp}
use Rattle.std.specs.FinSet.{FinSet, contains, intersection, members}
use Rattle.library_keys.proofs.keys.dependent_on.Goals as goal

pub returns : goal.returns
returns c = λ a. (
  λ one.
      let both : IsTrue (contains (intersection c.closure.result c.args.all) a) = subst (λ (s : FinSet nat_cmp). IsTrue (contains s a)) c.meet.ensures one in
      (grind (arith, members, both), (c.closure.ensures a).0 (grind (arith, members, both))),
  λ two.
      let all = two.0 in
      let reached = (c.closure.ensures a).1 two.1 in
      subst (λ (s : FinSet nat_cmp). IsTrue (contains s a)) (sym c.meet.ensures) (grind (arith, members, all, reached)),
)
