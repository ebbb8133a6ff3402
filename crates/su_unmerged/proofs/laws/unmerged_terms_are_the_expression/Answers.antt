-- They are the terms of a schema without dependencies, which every universal relation meets.
use Rattle.su_unmerged.proofs.Unmerged.{unmerged_expression}
use Rattle.su_unmerged.proofs.laws.unmerged_terms_are_the_expression.Goals as goal

pub returns : goal.returns
returns c = unmerged_expression c.terms_are_the_expression.ensures
