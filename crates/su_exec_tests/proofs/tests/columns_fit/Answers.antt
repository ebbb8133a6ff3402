-- The columns so far are below the width, each of them tested; at the end the columns so far are all of them.
use Rattle.std.proofs.Common.{◌<◌, sym, arith}
use Rattle.std.proofs.lemmas.List.Elements.{All-more, All-same}
use Rattle.std.proofs.lemmas.List.{take_all}
use Rattle.su_exec_tests.proofs.tests.columns_fit.Goals as goal

pub loop-column-preserved : goal.loop-column-preserved
loop-column-preserved c = All-more (λ column. column < c.args.width) c.args.columns.now c.loop-column.column-index 0 c.loop-column-test.true c.loop-column.invariant (omega (arith, c.if-column-width.false))

pub returns : goal.returns
returns c = All-same (λ column. column < c.args.width) c.args.columns.now _ (sym (take_all c.loop-column.column-index c.args.columns.now (omega arith))) c.loop-column.invariant
