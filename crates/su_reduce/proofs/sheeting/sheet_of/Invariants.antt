use Rattle.std.proofs.Common.{length}
use Rattle.su_reduce.specs.Codes.{Extends}
use Rattle.su_reduce.specs.inside.Coded.{AreRowsOf}
use Rattle.su_reduce.proofs.sheeting.sheet_of.Given as goal

abbrev pub invariant-loop-row : goal.invariant-loop-row
invariant-loop-row l = record {
  codes : Extends l.fn.codes l.codes;
  rows : AreRowsOf l.codes l.edge.candidates (length l.edge.cells) l.row-index l.sheet;
}
