-- The rows so far are those of the set's objects below the number; the next object gives its row exactly if it is in the set.
use Rattle.std.proofs.Common.{sym, ◌∙◌}
use Rattle.su_dangling.specs.inside.Tasks.{IsRowFor}
use Rattle.su_dangling.proofs.Objects.{zip_more, zip_same}
use Rattle.su_dangling.proofs.tasks.rows_for.Goals as goal
use Rattle.su_dangling.proofs.tasks.rows_for.Goals.{then-contains+in_ok-row+in_ok-push, else-contains}

pub loop-o-preserved : goal.loop-o-preserved
loop-o-preserved c = elim c.if-contains.branch [
  | then-contains+in_ok-row+in_ok-push w ↦ zip_more (IsRowFor c.args.schema.now) c.args.objects c.loop-o.o c.loop-o.rows c.if-contains.rows w.in_ok-row.row c.loop-o.invariant (sym c.contains.ensures ∙ w.if-contains.true) w.in_ok-row.ensures (w.rows-is ∙ w.in_ok-push.ensures.ok)
  | else-contains w ↦ zip_same (IsRowFor c.args.schema.now) c.args.objects c.loop-o.o c.loop-o.rows c.if-contains.rows c.loop-o.invariant (sym c.contains.ensures ∙ w.if-contains.false) w.rows-is
]
