-- Each minimal is made of its term, which is valid and typed, so its kept rows are least.
use Rattle.su_answer.proofs.Minimals.{all_minimised, minimals_fit}
use Rattle.su_answer.proofs.laws.prepared_rows_are_least.Goals as goal

pub returns : goal.returns
returns c = λ schema maximal q p valid resolved is k d l.
    let fit = minimals_fit c.terms_are_valid_and_typed.ensures schema maximal q p valid resolved is k d l in
    c.kept_rows_are_least.ensures _ _ _ fit.0 fit.1 (all_minimised p.terms p.minimals is.minimals k d l).kept
