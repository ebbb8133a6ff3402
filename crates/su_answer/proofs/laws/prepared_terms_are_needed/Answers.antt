-- The minimals are those of valid and typed terms, and of such no kept one can be spared.
use Rattle.su_answer.proofs.Minimals.{all_minimised, minimals_fit}
use Rattle.su_answer.proofs.laws.prepared_terms_are_needed.Goals as goal

pub returns : goal.returns
returns c = λ schema maximal q p valid resolved is k tableaux list answers.
    let fit = minimals_fit c.terms_are_valid_and_typed.ensures schema maximal q p valid resolved is in
    c.kept_terms_are_needed.ensures _ p.minimals p.reduced k tableaux (all_minimised p.terms p.minimals is.minimals) (λ i d l. (fit i d l).1) is.reduced list answers
