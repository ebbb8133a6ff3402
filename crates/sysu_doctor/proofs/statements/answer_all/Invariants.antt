use Rattle.sysu_doctor.proofs.ScriptRuns.{SoFar}
use Rattle.sysu_doctor.proofs.statements.answer_all.Given as goal

abbrev pub invariant-loop-k : goal.invariant-loop-k
invariant-loop-k g l = SoFar l.script l.span-items l.k l.fn.session l.session l.found l.fn.outside l.outside
