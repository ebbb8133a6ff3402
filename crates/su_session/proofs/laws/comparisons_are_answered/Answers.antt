-- The terms of two queries that are answered can be compared, so that a verdict on them is true of the queries.
use Rattle.su_session.proofs.TrueVerdicts.{comparisons_answered}
use Rattle.su_session.proofs.laws.comparisons_are_answered.Goals as goal

pub returns : goal.returns
returns c = comparisons_answered c.terms_are_comparable.ensures c.verdicts_decide.ensures
