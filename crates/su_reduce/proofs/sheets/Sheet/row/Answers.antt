-- Cut at the width, the cells have row i as the piece of that width from i times the width on, which lies within them.
use Rattle.std.proofs.Common.{length, ap, ◌∙◌, arith}
use Rattle.su_reduce.proofs.ListPieces.{row_fits, row_is, row_wide}
use Rattle.su_reduce.proofs.sheets.Sheet.row.Goals as goal

pub overflow_mul-start : goal.overflow_mul-start
overflow_mul-start c =
    let f = row_fits c.self.inside.width c.self.inside.count c.args.i c.self.inside.cells.items c.as_slice-cells.result.now c.as_slice-cells.ensures.value c.self.invariant (rw (← c.self.view_is) at c.requires) in
    let t = c.as_slice-cells.type_inv in
    omega arith

pub piece-requires : goal.piece-requires
piece-requires c = row_fits c.self.inside.width c.self.inside.count c.args.i c.self.inside.cells.items c.as_slice-cells.result.now c.as_slice-cells.ensures.value c.self.invariant (rw (← c.self.view_is) at c.requires)

pub returns : goal.returns
returns c =
    let s = c.self.inside in
    let l = rw (← c.self.view_is) at c.requires in
    rw (← c.self.view_is) (record {
      is = c.piece.ensures ∙ row_is s.width s.count c.args.i s.cells.items c.as_slice-cells.result.now c.as_slice-cells.ensures.value l;
      width = ap length c.piece.ensures ∙ row_wide s.width s.count c.args.i s.cells.items c.as_slice-cells.result.now c.as_slice-cells.ensures.value c.self.invariant l;
    })
