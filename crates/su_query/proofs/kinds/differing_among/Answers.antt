-- The comparisons before this one have sides of one kind, so the first of two kinds among all is the first from here on.
use Rattle.std.proofs.Common.{◌∙◌, length, sym}
use Rattle.su_where.specs.Places.{HasPlacesBelow}
use Rattle.su_query.proofs.Found.{of_lent, kinds_here, kinds_later}
use Rattle.su_query.proofs.kinds.differing_among.Goals as goal

pub differing-requires : goal.differing-requires
differing-requires c = of_lent (HasPlacesBelow (length c.args.kinds.now)) c.args.compared.now c.loop-literal.literal-index c.literal-item.result c.loop-literal-test.true c.literal-item.is c.requires

pub returns-in-Some : goal.returns-in-Some
returns-in-Some c =
    sym (kinds_here c.args.kinds.now c.args.compared.now c.loop-literal.literal-index c.literal-item.result c.loop-literal-test.true c.literal-item.is c.in-Some.found (sym c.in-Some.ensures)) ∙ c.loop-literal.invariant

pub loop-literal-preserved : goal.loop-literal-preserved
loop-literal-preserved c =
    sym (kinds_later c.args.kinds.now c.args.compared.now c.loop-literal.literal-index c.literal-item.result c.loop-literal-test.true c.literal-item.is (sym c.in-None.ensures)) ∙ c.loop-literal.invariant
