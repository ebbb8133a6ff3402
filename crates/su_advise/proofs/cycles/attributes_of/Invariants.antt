use Rattle.su_maxobj.proofs.Members.{IsAttributesBelow}
use Rattle.su_advise.proofs.cycles.attributes_of.Given as goal

abbrev pub invariant-loop-o : goal.invariant-loop-o
invariant-loop-o l = IsAttributesBelow l.objects l.fn.set l.o l.all
