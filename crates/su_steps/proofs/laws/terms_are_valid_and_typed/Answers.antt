-- Each term is made of the rows and the head of a case, which are valid and typed.
use Rattle.su_steps.proofs.Validity.{all_valid}
use Rattle.su_steps.proofs.Whole.{all_typed}
use Rattle.su_steps.proofs.laws.terms_are_valid_and_typed.Goals as goal

pub returns : goal.returns
returns c = λ schema maximal q ts valid resolved terms k d l. (all_valid schema maximal q valid resolved ts terms k d l, all_typed schema maximal q valid resolved ts terms k d l)
