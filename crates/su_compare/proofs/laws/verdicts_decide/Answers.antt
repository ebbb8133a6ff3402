-- A term that is settled answers no more than the second query, and one that isn't has frozen rows that only the first query answers.
use Rattle.su_compare.proofs.Decided.{decide}
use Rattle.su_compare.proofs.laws.verdicts_decide.Goals as goal

pub returns : goal.returns
returns c = decide c.terms_are_the_expression.ensures c.terms_are_valid_and_typed.ensures
