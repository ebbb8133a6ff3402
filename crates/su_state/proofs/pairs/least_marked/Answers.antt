-- The row is the least of those so far whose first one is marked, and a further one takes its place where it is less.
use Rattle.std.proofs.Common.{◌≡◌, ℕ, length, subst, arith}
use Rattle.su_state.specs.inside.Pairs.{IsLeastMarked}
use Rattle.su_state.proofs.Paired.{not_marked, is_marked}
use Rattle.su_state.proofs.pairs.least_marked.Goals as goal
use Rattle.su_state.proofs.pairs.least_marked.Goals.{then-marks-firsts, else-marks-firsts}

pub loop-position-preserved : goal.loop-position-preserved
loop-position-preserved c =
    elim c.if-marks-firsts.branch [
      | then-marks-firsts w ↦ rw w.least-is (is_marked c.args.rows.now c.args.firsts.now c.args.marks.now c.loop-position.position c.loop-position.least w.lesser_row-least.result c.loop-position-test.true c.loop-position.invariant w.if-marks-firsts.true w.lesser_row-least.ensures)
      | else-marks-firsts w ↦ rw w.least-is (not_marked c.args.rows.now c.args.firsts.now c.args.marks.now c.loop-position.position c.loop-position.least c.loop-position.invariant w.if-marks-firsts.false)
    ]

pub returns : goal.returns
returns c =
    let end : c.loop-position.position ≡ length c.args.rows.now = omega arith in
    subst (λ (n : ℕ). IsLeastMarked c.args.rows.now c.args.firsts.now c.args.marks.now n c.loop-position.least) end c.loop-position.invariant
