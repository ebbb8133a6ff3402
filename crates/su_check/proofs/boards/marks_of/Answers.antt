-- The marks set so far are those of the head's variables so far; one that has no number isn't in the rows, so there are no marks to give.
use Rattle.std.proofs.Common.{sym, ap, subst, arith}
use Rattle.su_check.proofs.Boarded.{Marked, mark_var, mark_const, marks_done}
use Rattle.su_check.proofs.boards.marks_of.Goals as goal
use Rattle.su_check.proofs.boards.marks_of.Goals.{in-Var+in-Some, in_default}

pub loop-x-preserved : goal.loop-x-preserved
loop-x-preserved c =
    elim c.match-x.branch [
      | in-Var+in-Some w ↦
          mark_var c.args.variables.now c.args.head.now c.loop-x.x-index c.loop-x.marks.items _ c.x-item.result w.in-Var.k w.in-Some.n c.loop-x.invariant c.loop-x-test.true c.x-item.is w.in-Var.is w.in-Some.ensures (ap (λ m. m.items) w.marks-is)
      | in_default w ↦ mark_const c.args.variables.now c.args.head.now c.loop-x.x-index c.loop-x.marks.items _ c.x-item.result c.loop-x.invariant c.loop-x-test.true c.x-item.is w.in_default.not-Var (ap (λ m. m.items) w.marks-is)
    ]

pub returns : goal.returns
returns c = marks_done c.args.variables.now c.args.head.now c.loop-x.x-index _ (let l = c.loop-x-test.false in omega arith) (subst (Marked c.args.variables.now c.args.head.now c.loop-x.x-index) (sym c.from_vec.ensures) c.loop-x.invariant)
