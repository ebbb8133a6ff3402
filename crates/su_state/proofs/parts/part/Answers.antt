-- The copies are the values of the columns among the cells so far, and a cell more is copied where its column is one of them.
use Rattle.std.proofs.Common.{◌≡◌, ◌<◌, ◌+◌, length, slice_get, Some, sym, ap, ◌∙◌, arith}
use Rattle.su_state.proofs.Noted.{part_pushed, part_passed}
use Rattle.su_state.proofs.parts.part.Goals as goal
use Rattle.su_state.proofs.parts.part.Goals.{then-contains+in_ok-copy+in_ok-push, else-contains}

pub loop-c-preserved : goal.loop-c-preserved
loop-c-preserved c =
    let row = c.args.row.now in
    let n = c.loop-c.c + 1 in
    let within : c.loop-c.c < length row = omega (arith, c.loop-c-test.true, c.len-c-end.ensures) in
    elim c.if-contains.branch [
      | then-contains+in_ok-copy+in_ok-push w ↦
          let at : slice_get row c.loop-c.c ≡ Some w.in_ok-copy.field-0 = w.get.ensures ∙ ap Some (sym w.in_ok-copy.ensures) in
          rw (w.part-is, w.in_ok-push.ensures.ok) (part_pushed c.args.columns row c.loop-c.part c.loop-c.c n w.in_ok-copy.field-0 at (sym c.contains.ensures ∙ w.if-contains.true) (omega arith) c.loop-c.invariant)
      | else-contains w ↦ rw w.part-is (part_passed c.args.columns row c.loop-c.part c.loop-c.c n within (sym c.contains.ensures ∙ w.if-contains.false) (omega arith) c.loop-c.invariant)
    ]
