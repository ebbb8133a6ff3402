-- Of a row outside the mask nothing is asked.
use Rattle.std.proofs.Common.{sym, ◌∙◌, true≢false}
use Rattle.su_tableau.proofs.occurrences.columns_at.Goals as goal

pub returns-then-not-has : goal.returns-then-not-has
returns-then-not-has c = λ one. absurd (true≢false (sym (c.has.ensures.1 one) ∙ c.if-not-has.true))
