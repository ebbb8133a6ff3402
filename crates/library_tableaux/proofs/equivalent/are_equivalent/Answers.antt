-- Both directions of inclusion are equivalence.
use Rattle.std.proofs.Common.{sym, ◌∙◌}
use Rattle.std.proofs.lemmas.Bool.{false≢true}
use Rattle.library_tableaux.proofs.equivalent.are_equivalent.Goals as goal

pub returns-then-one : goal.returns-then-one
returns-then-one c = λ kinds tt ts. (
  λ yes universe h is. ((c.in_ok-one.ensures kinds tt ts).0 c.if-one.true universe h is, (c.in_ok-other.ensures kinds ts tt).0 yes universe h is),
  λ both. (c.in_ok-other.ensures kinds ts tt).1 (λ universe h is e. (both universe h is).1 e),
)

pub returns-else-one : goal.returns-else-one
returns-else-one c = λ kinds tt ts. (
  λ yes. absurd (false≢true (sym c.if-one.false ∙ yes)),
  λ both. absurd (false≢true (sym c.if-one.false ∙ (c.in_ok-one.ensures kinds tt ts).1 (λ universe h is e. (both universe h is).0 e))),
)
