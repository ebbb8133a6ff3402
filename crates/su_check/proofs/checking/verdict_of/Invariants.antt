use Rattle.su_check.specs.Verdict.{AreGood}
use Rattle.su_check.proofs.checking.verdict_of.Given as goal

abbrev pub invariant-loop-i : goal.invariant-loop-i
invariant-loop-i l = AreGood l.kinds l.terms l.i
