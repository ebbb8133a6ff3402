-- The cells so far have the wanted values; lists of one length that agree at every place are equal, and one place that differs tells them apart.
use Rattle.std.proofs.Common.{refl}
use Rattle.su_tableau.specs.declared.symbols.Sym.TheVariants.{Var}
use Rattle.su_tableau.specs.Valuations.{nth}
use Rattle.su_tableau.proofs.Rows.{contains_read, values_more, values_all}
use Rattle.su_tableau.proofs.valuations.has_values.Goals as goal

pub has_value-requires : goal.has_value-requires
has_value-requires c = λ k e. c.requires k (contains_read c.args.row.now c.loop-c.c c.index-row-c.result (Var k) c.loop-c-test.true c.index-row-c.is e)

pub loop-c-preserved : goal.loop-c-preserved
loop-c-preserved c =
    values_more (nth c.args.values.now) c.args.row.now c.args.wanted.now c.loop-c.c c.index-row-c.result c.index-wanted-c.result c.if-row-wanted.false c.loop-c.invariant c.loop-c-test.true c.index-row-c.is c.index-wanted-c.is (c.has_value.ensures.0 c.if-not-has_value.false)

pub returns : goal.returns
returns c = (λ yes. values_all (nth c.args.values.now) c.args.row.now c.args.wanted.now c.loop-c.c c.loop-c-test.false c.if-row-wanted.false c.loop-c.invariant, λ e. refl)
