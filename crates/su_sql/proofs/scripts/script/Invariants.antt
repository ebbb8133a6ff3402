use Rattle.std.proofs.Common.{take}
use Rattle.su_sql.proofs.Written.{SoFar}
use Rattle.su_sql.proofs.scripts.script.Given as goal

abbrev pub invariant-loop-span : goal.invariant-loop-span
invariant-loop-span g l = SoFar l.dialect l.script (take l.span-index l.span-items) l.initial.out.items l.initial.session l.session l.refused l.out.items
