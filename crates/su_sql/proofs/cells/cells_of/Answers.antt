-- The cells so far are those of the rows so far, each at its table's number and its place; the next row's cells come behind them.
use Rattle.std.proofs.Common.{◌≡◌, ◌++◌, List, get_or, ap, ◌∙◌}
use Rattle.std.proofs.lemmas.List.{get_or_default}
use Rattle.su_exec.specs.declared.tasks.TaskRow.{TaskRow}
use Rattle.su_sql.specs.declared.cells.Cell.{Cell}
use Rattle.su_exec.specs.Tasks.{no_row}
use Rattle.su_sql.specs.Cells.{cells_in}
use Rattle.su_sql.proofs.ImageLists.{flat_next}
use Rattle.su_sql.proofs.cells.cells_of.Goals as goal

pub loop-table-preserved : goal.loop-table-preserved
loop-table-preserved c =
    let rows : List TaskRow = c.args.rows.now in
    let i = c.loop-table.table in
    let before : List Cell = c.loop-table.cells in
    let row : c.index-rows-table.result ≡ get_or rows i no_row = c.index-rows-table.is ∙ get_or_default rows i c.index-rows-table.result no_row c.loop-table-test.true in
    flat_next (λ t. cells_in t (get_or rows t no_row)) i before c.push_cells.new.cells c.loop-table.invariant (c.in_ok-push_cells.ensures ∙ ap (λ (r : TaskRow). before ++ cells_in i r) row)
