-- Both are the expression.
use Rattle.su_unmerged.proofs.Unmerged.{same_answers}
use Rattle.su_unmerged.proofs.laws.terms_answer_as_unmerged.Goals as goal

pub returns : goal.returns
returns c = same_answers c.terms_are_the_expression.ensures
