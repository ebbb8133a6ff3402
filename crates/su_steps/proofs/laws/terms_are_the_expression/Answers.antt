-- What the terms answer in union is what the combinations of the disjuncts' choices do.
use Rattle.su_steps.proofs.Whole.{whole}
use Rattle.su_steps.proofs.laws.terms_are_the_expression.Goals as goal

pub returns : goal.returns
returns c = λ schema maximal q ts valid resolved terms universe h kinds meets. whole schema maximal q valid resolved ts terms universe h kinds meets
