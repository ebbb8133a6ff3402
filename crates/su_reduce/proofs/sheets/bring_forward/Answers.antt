-- The front has the marked ones of the rows so far side by side, and the rows from the next on are as they were, since no row is moved behind its place.
use Rattle.std.proofs.Common.{◌≡◌, ℕ, List, length, arith}
use Rattle.su_reduce.proofs.ForwardRows.{forward_all, forward_in, forward_out, none_forward}
use Rattle.su_reduce.proofs.sheets.bring_forward.Goals as goal
use Rattle.su_reduce.proofs.sheets.bring_forward.Goals.{then-marks-i, else-marks-i}

pub loop-i-init : goal.loop-i-init
loop-i-init c = none_forward c.args.cells.now c.args.width c.args.marks.now

pub loop-i-preserved : goal.loop-i-preserved
loop-i-preserved c =
    let old : List ℕ = c.args.cells.now in
    let w = c.args.width in
    let marks = c.args.marks.now in
    let i = c.loop-i.i in
    let kept = c.loop-i.kept in
    let cells : List ℕ = c.loop-i.cells in
    let inv = c.loop-i.invariant in
    elim c.if-marks-i.branch [
      | then-marks-i x ↦ rw (x.cells-is, x.kept-is) (forward_in old w marks i kept cells inv c.requires c.loop-i-test.true x.move_back.new.cells x.if-marks-i.true x.move_back.ensures.length x.move_back.ensures.front x.move_back.ensures.behind)
      | else-marks-i x ↦ rw (x.cells-is, x.kept-is) (forward_out old w marks i kept cells inv c.requires c.loop-i-test.true x.if-marks-i.false)
    ]

pub returns-clause-rows : goal.returns-clause-rows
returns-clause-rows c =
    let done = c.loop-i-test.false in
    let end = c.loop-i.auto.i-end in
    let all : c.loop-i.i ≡ length c.args.marks.now = omega (arith, done, end) in
    forward_all c.args.cells.now c.args.width c.args.marks.now c.loop-i.i c.loop-i.kept c.loop-i.cells c.loop-i.invariant all
