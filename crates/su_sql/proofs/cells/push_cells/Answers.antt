-- The cells so far are those of the row so far, each with its place, behind those that were there; the next symbol's cell comes behind them.
use Rattle.std.proofs.Common.{◌≡◌, List, get_or, ap, ◌∙◌}
use Rattle.std.proofs.lemmas.List.{get_or_default}
use Rattle.su_tableau.specs.declared.symbols.Sym.{Sym}
use Rattle.su_tableau.specs.declared.symbols.Sym.TheVariants.{Var}
use Rattle.su_sql.specs.declared.cells.Cell.{Cell}
use Rattle.su_sql.specs.Cells.{place, cell_at}
use Rattle.su_sql.proofs.ImageLists.{images_behind}
use Rattle.su_sql.proofs.cells.push_cells.Goals as goal

pub loop-cell-preserved : goal.loop-cell-preserved
loop-cell-preserved c =
    let table = c.args.table in
    let row = c.args.row.now in
    let i = c.loop-cell.cell in
    let items : List Sym = c.as_slice-symbol-items.result.now in
    let symbol : c.in_ok-symbol.symbol ≡ get_or row.cells i (Var 0) =
    c.in_ok-symbol.ensures ∙ c.symbol-item.is ∙ get_or_default items i c.symbol-item.result (Var 0) c.loop-cell-test.true ∙ ap (λ (xs : List Sym). get_or xs i (Var 0)) c.as_slice-symbol-items.ensures in
    let cell : Cell = record { place = place table i; symbol = c.in_ok-symbol.symbol } in
    images_behind (cell_at table row) i cell c.args.cells.now c.loop-cell.cells c.push.new.self c.loop-cell.invariant c.in_ok-push.ensures.ok (ap (λ (x : Sym). record { place = place table i; symbol = x }) symbol)
