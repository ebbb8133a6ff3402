use Rattle.su_maxobj.proofs.Members.{IsAttributesBelow}
use Rattle.su_maxobj.proofs.adjoining.attributes_of.Given as goal

abbrev pub invariant-loop-o : goal.invariant-loop-o
invariant-loop-o l = IsAttributesBelow l.objects l.have l.o l.all
