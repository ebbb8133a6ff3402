-- The exact answers are those of the kept terms, which over the projections of a universal relation are what all terms answer, and the terms are the expression; each step is a law cited.
use Rattle.su_answer.proofs.Expression.{Laws, answers_are_the_expression}
use Rattle.su_answer.proofs.laws.answers_are_the_expression.Goals as goal

pub returns : goal.returns
returns c = λ db maximal q rows kept resolved answer universe h kinds meets projections.
    let laws : Laws = record {
      typed = c.terms_are_valid_and_typed.ensures;
      union = c.terms_are_the_expression.ensures;
      sources = c.rows_have_sources.ensures;
      least = c.kept_rows_are_least.ensures;
      covered = c.terms_are_kept_or_covered.ensures;
      lists = c.row_lists_are_mappings.ensures.to;
      essential = c.essential_columns_suffice.ensures;
    } in
    let e = answers_are_the_expression laws db answer.prepared maximal q universe kept resolved answer.is_prepared kinds meets projections h in
    (λ x. e.0 ((answer.answers.exact h).0 x), λ y. (answer.answers.exact h).1 (e.1 y))
