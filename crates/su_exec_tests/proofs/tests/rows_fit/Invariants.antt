use Rattle.std.proofs.Common.{All, take}
use Rattle.su_exec.specs.Tasks.{HasSources}
use Rattle.su_exec_tests.proofs.tests.rows_fit.Given as goal

abbrev pub invariant-loop-row : goal.invariant-loop-row
invariant-loop-row l = All (HasSources l.tables) (take l.row-index l.rows)
