use Rattle.std.proofs.Common.{take}
use Rattle.su_reduce.specs.Codes.{Extends}
use Rattle.su_exec.specs.inside.Shown.{AreChecksOf}
use Rattle.su_exec.proofs.executing.checks_of.Given as goal

abbrev pub invariant-loop-compared : goal.invariant-loop-compared
invariant-loop-compared l = record {
  codes : Extends l.fn.codes l.codes;
  checks : AreChecksOf l.codes (take l.compared-index l.task.comparisons) l.checks.items;
}
