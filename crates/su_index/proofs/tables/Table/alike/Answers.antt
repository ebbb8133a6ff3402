-- All rows of the table are as wide as it is, and the width is below 256, so the notes may be asked.
use Rattle.std.proofs.Common.{arith, ap, sym, ◌∙◌}
use Rattle.su_index.proofs.tables.Table.alike.Goals as goal

pub told-requires-clause-width : goal.told-requires-clause-width
told-requires-clause-width c =
    (c.self.inside.rows.width, omega (arith, c.width-width.ensures, c.width-width.type_inv), rw c.as_slice.ensures.rows c.as_slice.ensures.relation.width, c.requires ∙ ap (λ s. s.width) (sym c.self.view_is))
