-- The rows so far have sources that fit the tables, as many columns as the row has cells; at the end these are all rows.
use Rattle.std.proofs.Common.{List, length, All, subst, sym, arith}
use Rattle.std.proofs.lemmas.Bool.{OnTrue_at}
use Rattle.std.proofs.lemmas.List.Elements.{All-more, All-same}
use Rattle.std.proofs.lemmas.List.{take_all}
use Rattle.su_exec.specs.declared.tasks.Source.{Source}
use Rattle.su_exec.specs.Tasks.{FitsTables, HasSources}
use Rattle.su_exec_tests.proofs.tests.rows_fit.Goals as goal

pub loop-row-preserved : goal.loop-row-preserved
loop-row-preserved c =
    let tables = c.args.tables.now in
    let row = c.row-item.result in
    let given : All (FitsTables tables c.len.result) c.as_slice.result.now = OnTrue_at c.if-not-sources_fit.false c.sources_fit.ensures in
    let wide : All (FitsTables tables (length row.cells)) c.as_slice.result.now = subst (λ n. All (FitsTables tables n) c.as_slice.result.now) c.len.ensures given in
    let fits : HasSources tables row = subst (λ (sources : List Source). All (FitsTables tables (length row.cells)) sources) c.as_slice.ensures wide in
    All-more (HasSources tables) c.args.rows.now c.loop-row.row-index row c.loop-row-test.true c.loop-row.invariant (subst (HasSources tables) c.row-item.is fits)

pub returns : goal.returns
returns c = All-same (HasSources c.args.tables.now) c.args.rows.now _ (sym (take_all c.loop-row.row-index c.args.rows.now (omega arith))) c.loop-row.invariant
