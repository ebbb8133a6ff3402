-- Each is among the others, both ways.
use Rattle.std.proofs.Common.{◌∙◌, sym}
use Rattle.std.proofs.lemmas.Bool.{true≢false}
use Rattle.su_report.proofs.object_parts.are_equal.Goals as goal

pub returns-then-are_among : goal.returns-then-are_among
returns-then-are_among c = (
  λ t x. (c.are_among.ensures.0 c.if-are_among.true x, c.are_among-then-are_among.ensures.0 t x),
  λ both. c.are_among-then-are_among.ensures.1 (λ x there. (both x).1 there),
)

pub returns-else-are_among : goal.returns-else-are_among
returns-else-are_among c = (
  λ t. absurd (true≢false (sym t ∙ c.if-are_among.false)),
  λ both. absurd (true≢false (sym (c.are_among.ensures.1 (λ x there. (both x).0 there)) ∙ c.if-are_among.false)),
)
