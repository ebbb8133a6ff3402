-- The sources so far fit the tables, as each was tested alone; those before the end are all of them.
use Rattle.std.proofs.Common.{subst, sym, arith}
use Rattle.std.proofs.lemmas.Bool.{OnTrue_at}
use Rattle.std.proofs.lemmas.List.Elements.{All-more, All-same}
use Rattle.std.proofs.lemmas.List.{take_all}
use Rattle.su_exec.specs.Tasks.{FitsTables}
use Rattle.su_exec_tests.proofs.tests.sources_fit.Goals as goal

pub loop-source-preserved : goal.loop-source-preserved
loop-source-preserved c =
    let has = FitsTables c.args.tables.now c.args.cells in
    All-more has c.args.sources.now c.loop-source.source-index c.source-item.result c.loop-source-test.true c.loop-source.invariant
    (subst has c.source-item.is (OnTrue_at c.if-not-source_fits.false c.source_fits.ensures))

pub returns : goal.returns
returns c = All-same (FitsTables c.args.tables.now c.args.cells) c.args.sources.now _ (sym (take_all c.loop-source.source-index c.args.sources.now (omega arith))) c.loop-source.invariant
