use Rattle.std.proofs.Common.{◌≡◌, take}
use Rattle.sysu.proofs.RepliesSoFar.{SoFar}
use Rattle.sysu.proofs.ScriptEnds.{TookLoads}
use Rattle.sysu.proofs.statements.answer_all.Given as goal

abbrev pub invariant-loop-span : goal.invariant-loop-span
invariant-loop-span g l = record {
  files : l.outside.files ≡ l.fn.outside.files;
  reads : l.outside.reads ≡ l.fn.outside.reads;
  writes : l.outside.writes ≡ l.fn.outside.writes;
  so_far : SoFar l.fn.outside.files l.script (take l.span-index l.span-items) l.fn.session l.session l.refused l.fn.outside.told l.outside.told;
  took : TookLoads l.script l.span-items l.fn.session so_far.replies l.fn.outside l.outside;
}
