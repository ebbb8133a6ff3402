use Rattle.su_maxobj.proofs.Members.{IsAttributesBelow}
use Rattle.su_report.proofs.Meeting.{AreTwice}
use Rattle.su_report.proofs.maximal_parts.meeting_of.Given as goal

abbrev pub invariant-loop-o : goal.invariant-loop-o
invariant-loop-o l = record {
  once : IsAttributesBelow l.objects l.fn.core l.o l.once;
  twice : AreTwice l.objects l.fn.core l.o l.twice;
}
