use Rattle.std.proofs.Common.{All, take}
use Rattle.su_exec.specs.Tasks.{FitsTables}
use Rattle.su_exec_tests.proofs.tests.sources_fit.Given as goal

abbrev pub invariant-loop-source : goal.invariant-loop-source
invariant-loop-source l = All (FitsTables l.tables l.cells) (take l.source-index l.sources)
