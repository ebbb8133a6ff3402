-- The union so far is that of the attributes of the set's objects below the number; the next object adds its own exactly if it is in the set.
use Rattle.std.proofs.Common.{sym, ◌∙◌}
use Rattle.su_steps.proofs.TogetherAttributes.{together_more, together_same}
use Rattle.su_steps.proofs.objects.attributes_together.Goals as goal
use Rattle.su_steps.proofs.objects.attributes_together.Goals.{then-contains, else-contains}

pub loop-o-preserved : goal.loop-o-preserved
loop-o-preserved c = elim c.if-contains.branch [
  | then-contains w ↦ together_more c.args.schema.now c.args.set c.loop-o.o c.loop-o.all w.object_attributes.result c.if-contains.all c.loop-o.invariant w.object_attributes.ensures (sym w.if-contains.ensures) (w.all-is ∙ w.union-all.ensures)
  | else-contains w ↦ together_same c.args.schema.now c.args.set c.loop-o.o c.loop-o.all c.if-contains.all c.loop-o.invariant (sym w.if-contains.ensures) w.all-is
]
