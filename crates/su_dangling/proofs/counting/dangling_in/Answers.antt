-- What is found so far is that of the set's objects below the number; the next object's comes to the end exactly if it is in the set.
use Rattle.std.proofs.Common.{sym, ◌∙◌}
use Rattle.su_dangling.specs.Dangling.{IsCounted}
use Rattle.su_dangling.proofs.Objects.{zip_more, zip_same}
use Rattle.su_dangling.proofs.counting.dangling_in.Goals as goal
use Rattle.su_dangling.proofs.counting.dangling_in.Goals.{then-contains+in_ok-one+in_ok-push, else-contains}

pub loop-o-preserved : goal.loop-o-preserved
loop-o-preserved c = elim c.if-contains.branch [
  | then-contains+in_ok-one+in_ok-push w ↦ zip_more (IsCounted c.args.db.now c.args.objects) c.args.objects c.loop-o.o c.loop-o.found c.if-contains.found w.in_ok-one.one c.loop-o.invariant (sym c.contains.ensures ∙ w.if-contains.true) w.in_ok-one.ensures (w.found-is ∙ w.in_ok-push.ensures.ok)
  | else-contains w ↦ zip_same (IsCounted c.args.db.now c.args.objects) c.args.objects c.loop-o.o c.loop-o.found c.if-contains.found c.loop-o.invariant (sym c.contains.ensures ∙ w.if-contains.false) w.found-is
]
