-- A tree begins with the number of its row, a byte, so that a refused number refutes every tree.
use Rattle.std.proofs.Common.{Err, ap, ◌∙◌, arith}
use Rattle.std.proofs.lemmas.Result.{err_from_is_err_and}
use Rattle.su_check.proofs.Runs.{gives_on}
use Rattle.su_check.proofs.lines.tree.Goals as goal

pub returns-in_err-row-clause-only : goal.returns-in_err-row-clause-only
returns-in_err-row-clause-only c = λ t r are e.
    let p = err_from_is_err_and c.from_residual.result c.from_residual.ensures.1 in
    let byte = are.0 in
    gives_on _ _ c.in_err-row.field-0.0 c.from_residual.result (p.1 ∙ ap Err p.2) (c.in_err-row.ensures.only t.row _ (omega arith) e)
