-- Where no member but the row itself is left, no other row was noted at the variable.
use Rattle.std.proofs.Common.{◌∙◌, sym}
use Rattle.su_map.proofs.Members.{no_member}
use Rattle.su_map.proofs.tables.rows_besides.Goals as goal

pub returns-then-others-eq0 : goal.returns-then-others-eq0
returns-then-others-eq0 c = λ q free ne one. absurd (no_member c.without-others.result q c.if-others-eq0.true (c.without-others.ensures.same q (λ e. ne (sym e)) ∙ one))
