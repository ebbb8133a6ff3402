-- The script's databases follow each other, so a query is answered on the one before it; what is shown of its terms is of a prepared query, of which the laws speak.
use Rattle.sysu.proofs.Promised.{queries}
use Rattle.sysu.proofs.headline.queries_are_answered.Goals as goal

pub returns : goal.returns
returns c =
    queries c.queries_are_shown.ensures c.comparisons_are_answered.ensures c.prepared_rows_are_least.ensures c.prepared_terms_are_needed.ensures
    c.terms_are_kept_or_covered.ensures c.answers_are_the_expression.ensures
