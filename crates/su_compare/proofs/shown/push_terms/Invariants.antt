use Rattle.std.proofs.Common.{◌≡◌, ◌++◌, take}
use Rattle.su_compare.specs.inside.Settlements.{terms_constants}
use Rattle.su_compare.proofs.shown.push_terms.Given as goal

abbrev pub invariant-loop-term : goal.invariant-loop-term
invariant-loop-term l = l.constants ≡ l.fn.constants ++ terms_constants (take l.term-index l.terms)
