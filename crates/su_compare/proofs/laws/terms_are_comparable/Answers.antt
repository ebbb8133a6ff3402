-- The terms of accepted queries are valid and typed, which equal output kinds make alike.
use Rattle.su_compare.proofs.Comparable.{comparable}
use Rattle.su_compare.proofs.laws.terms_are_comparable.Goals as goal

pub returns : goal.returns
returns c = comparable c.terms_are_valid_and_typed.ensures
