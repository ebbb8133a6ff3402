-- A row in which the variable was found is a witness that it occurs.
use Rattle.std.proofs.Common.{◌≡◌, ◌<◌, ◌∙◌, List, Some, length, get_or, slice_get, Contains, sym, ap, subst}
use Rattle.std.proofs.lemmas.Option.{slice_get-get_or}
use Rattle.su_tableau.specs.declared.symbols.Sym.TheVariants.{Var}
use Rattle.su_exec.specs.declared.tasks.TaskRow.{TaskRow}
use Rattle.su_exec.proofs.Labels.{stands_at}
use Rattle.su_exec_tests.proofs.tests.stands_in_some.Goals as goal

pub returns-then-has_variable : goal.returns-then-has_variable
returns-then-has_variable c =
    let rows : List TaskRow = c.args.task.now.rows in
    let row : TaskRow = c.row-item.result in
    let i = c.loop-row.row-index in
    let items = c.as_slice-row-items.ensures in
    let low : i < length rows = subst (λ (xs : List TaskRow). i < length xs) items c.loop-row-test.true in
    let read : row ≡ get_or rows i row = c.row-item.is ∙ ap (λ (xs : List TaskRow). get_or xs i row) items in
    let at : slice_get rows i ≡ Some row = slice_get-get_or rows i row low ∙ ap Some (sym read) in
    let here : Contains row.cells (Var c.args.k) = subst (λ cells. Contains cells (Var c.args.k)) c.as_slice.ensures (c.has_variable.ensures c.if-has_variable.true) in
    (i, stands_at c.args.task.now c.args.k i row at here)
