-- The rows so far are those of the edge's rows so far that pass the test.
use Rattle.std.proofs.Common.{◌≡◌, ◌∙◌, List, ℕ, [], length, get_or, ap, subst, arith}
use Rattle.su_exec.specs.inside.Ranges.{ArePassing}
use Rattle.su_exec.proofs.CutEdges.{pass_more}
use Rattle.su_exec.proofs.narrowing.passing.Goals as goal

pub loop-i-preserved : goal.loop-i-preserved
loop-i-preserved c =
    let e = c.args.edge.now in
    let row : List ℕ = c.row-row.result.now in
    let is : row ≡ get_or e.rows c.loop-i.i [] = c.row-row.ensures.is ∙ ap (λ (rs : List (List ℕ)). get_or rs c.loop-i.i []) c.rows.ensures.rows in
    record {
      width = c.in_ok-push_if.ensures.width ∙ c.loop-i.invariant.width;
      passing = rw c.in_ok-push_if.ensures.ok (pass_more c.args.codes.now e c.args.test c.loop-i.i c.loop-i.rows.rows row c.passes_one-passes.result is c.passes_one-passes.ensures c.loop-i.invariant.passing);
    }

pub returns-clause-rows : goal.returns-clause-rows
returns-clause-rows c =
    let n = length c.args.edge.now.rows in
    let ended = c.loop-i-test.false in
    let end = c.len-i-end.ensures in
    let auto = c.loop-i.auto in
    let same : c.loop-i.i ≡ n = omega arith in
    subst (λ m. ArePassing c.args.codes.now c.args.edge.now c.args.test m c.loop-i.rows.rows) same c.loop-i.invariant.passing
