use Rattle.std.proofs.Common.{ℕ, ◌<◌}
use Rattle.su_maxobj.specs.AdjoinableObjects.{Adjoinable}
use Rattle.su_maxobj.specs.inside.Ruled.{AreNotAdjoinable}
use Rattle.su_maxobj.proofs.growing.first_adjoinable.Given as goal

abbrev pub invariant-loop-o : goal.invariant-loop-o
invariant-loop-o l = record {
  earlier : (k : ℕ) → k < l.o → ¬ Adjoinable l.fds l.objects l.have k;
  ruled_out : AreNotAdjoinable l.fds l.objects l.have l.ruled_out;
}
