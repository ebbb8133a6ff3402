-- The rows are real, so a row is given by a valuation, and without rows none fits.
use Rattle.std.proofs.Common.{◌≡◌, ℕ, length, ap, ◌∙◌}
use Rattle.su_exec.specs.inside.Edges.{Edge}
use Rattle.su_exec.proofs.MergeSteps.{rows_told}
use Rattle.su_exec.proofs.merging.has_rows.Goals as goal

pub returns : goal.returns
returns c =
    let g : Edge ℕ = c.args.edge.now in
    let count : c.len.result ≡ length g.rows = c.len.ensures ∙ ap length c.rows.ensures.rows in
    rows_told g c.len.result c.rows.ensures.real count
