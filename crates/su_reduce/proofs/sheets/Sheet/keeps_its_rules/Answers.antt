-- The cells are cut into rows of the width, and there are enough for all of them.
use Rattle.su_reduce.proofs.ListPieces.{cut_widths}
use Rattle.su_reduce.proofs.sheets.Sheet.keeps_its_rules.Goals as goal

pub returns : goal.returns
returns c = rw (← c.self.view_is) (cut_widths c.self.inside.width c.self.inside.count c.self.inside.cells.items c.self.invariant)
