-- The text that is shown is the schema's.
use Rattle.std.proofs.Common.{refl, sym, ◌∙◌}
use Rattle.su_keep.proofs.reading.read_schema.Goals as goal

pub returns-then-is_same-clause-text : goal.returns-then-is_same-clause-text
returns-then-is_same-clause-text c = sym c.in_ok-shown.ensures.text ∙ sym c.as_slice.ensures ∙ c.if-is_same.ensures refl
