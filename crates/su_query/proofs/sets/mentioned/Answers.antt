-- A place of the variable adds its attribute to the set, another place adds nothing.
use Rattle.std.proofs.Common.{◌∙◌}
use Rattle.su_query.proofs.AttributeSets.{one_here, one_elsewhere}
use Rattle.su_query.proofs.sets.mentioned.Goals as goal
use Rattle.su_query.proofs.sets.mentioned.Goals.{then-place-variable, else-place-variable}

pub loop-place-preserved : goal.loop-place-preserved
loop-place-preserved c =
    let items = c.as_slice-place-items in
    let l = c.loop-place in
    elim c.if-place-variable.branch [
      | then-place-variable w ↦ w.set-is ∙ w.insert-set.ensures ∙ one_here c.args.resolved.now.places items.result.now c.args.variable l.place-index _ l.set items.ensures c.loop-place-test.true l.invariant w.if-place-variable.true
      | else-place-variable w ↦ w.set-is ∙ one_elsewhere c.args.resolved.now.places items.result.now c.args.variable l.place-index _ l.set items.ensures c.loop-place-test.true l.invariant w.if-place-variable.false
    ]
