-- The rows of the set among the first ones; the next is copied where its place is in the set.
use Rattle.std.proofs.Common.{Contains, Some, refl, sym, ap, ◌∙◌, arith}
use Rattle.su_exec.specs.declared.tasks.TaskRow.{TaskRow}
use Rattle.su_why.proofs.Gathered.{gathered_none, gathered_in, gathered_out}
use Rattle.su_why.proofs.PartTasks.{rows_are}
use Rattle.su_why.proofs.parts.rows_of.Goals as goal

pub loop-i-init : goal.loop-i-init
loop-i-init c = gathered_none (λ i (row : TaskRow). Contains c.args.set.now i) c.args.task.now.rows _ c.new-rows.ensures

pub loop-i-preserved-then-not-is_among : goal.loop-i-preserved-then-not-is_among
loop-i-preserved-then-not-is_among c =
    gathered_out (λ i (row : TaskRow). Contains c.args.set.now i) c.args.task.now.rows c.loop-i.i c.loop-i.rows _ c.loop-i.invariant
    (λ x is has. let t = c.is_among.ensures.1 has in let f = c.if-not-is_among.true in absurd (grind (arith, t, f)))
    refl

pub loop-i-preserved : goal.loop-i-preserved
loop-i-preserved c =
    gathered_in (λ i (row : TaskRow). Contains c.args.set.now i) c.args.task.now.rows c.loop-i.i c.loop-i.rows _ c.in_ok-row.row c.loop-i.invariant
    (c.get.ensures ∙ ap Some (sym c.in_ok-row.ensures))
    (c.is_among.ensures.0 (let f = c.if-not-is_among.false in grind (arith, f)))
    c.in_ok-push.ensures.ok

pub returns : goal.returns
returns c = rows_are c.args.task.now c.args.set.now c.loop-i.i c.loop-i.rows (omega arith) c.loop-i.invariant
