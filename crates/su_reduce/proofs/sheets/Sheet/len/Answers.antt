-- Cut into its count of rows, the sheet has that many.
use Rattle.std.proofs.Common.{sym}
use Rattle.su_reduce.proofs.ListPieces.{length-cut}
use Rattle.su_reduce.proofs.sheets.Sheet.len.Goals as goal

pub returns : goal.returns
returns c = rw (← c.self.view_is) (sym (length-cut _ _ _))
