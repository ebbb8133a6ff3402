-- The cells of a row behind the others, which fill whole rows, are one row more when they are cut.
use Rattle.std.proofs.Common.{◌∙◌, ap}
use Rattle.su_reduce.proofs.ListPieces.{cut_more}
use Rattle.su_reduce.specs.Sheets.{cut}
use Rattle.su_reduce.proofs.sheets.Sheet.push.Goals as goal

pub returns-clause-ok : goal.returns-clause-ok
returns-clause-ok c =
    let s = c.self.inside in
    rw (← c.self.view_is) (
    ap (λ n. cut s.width n c.extend_from_slice.new.self.items) c.in-Some.ensures.1 ∙ ap (cut s.width _) c.in_ok-extend_from_slice.ensures.items
    ∙ cut_more s.width s.count s.cells.items c.args.row.now c.self.invariant (rw (← c.self.view_is) at c.requires.width))
