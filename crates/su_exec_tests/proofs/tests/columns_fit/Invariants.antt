use Rattle.std.proofs.Common.{◌<◌, All, take}
use Rattle.su_exec_tests.proofs.tests.columns_fit.Given as goal

abbrev pub invariant-loop-column : goal.invariant-loop-column
invariant-loop-column l = All (λ column. column < l.width) (take l.column-index l.columns)
