-- The sources so far are those of the set's objects below the number; the next object gives its source exactly if it is in the set.
use Rattle.std.proofs.Common.{sym, ◌∙◌}
use Rattle.su_answer.proofs.TaskRows.{sources_more, sources_same}
use Rattle.su_answer.proofs.tasks.sources_of.Goals as goal
use Rattle.su_answer.proofs.tasks.sources_of.Goals.{then-contains+in_ok-source+in_ok-push, else-contains}

pub loop-o-preserved : goal.loop-o-preserved
loop-o-preserved c = elim c.if-contains.branch [
  | then-contains+in_ok-source+in_ok-push w ↦ sources_more c.args.schema.now c.args.attributes.now c.args.objects c.loop-o.o c.loop-o.sources c.if-contains.sources w.in_ok-source.source c.loop-o.invariant (sym c.contains.ensures ∙ w.if-contains.true) w.in_ok-source.ensures (w.sources-is ∙ w.in_ok-push.ensures.ok)
  | else-contains w ↦ sources_same c.args.schema.now c.args.attributes.now c.args.objects c.loop-o.o c.loop-o.sources c.if-contains.sources c.loop-o.invariant (sym c.contains.ensures ∙ w.if-contains.false) w.sources-is
]
