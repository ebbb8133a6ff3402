-- The head so far names the outputs and the unevaluated sides of the comparisons so far, none of which is false by the names; so one that says false leaves the disjunct without a head.
use Rattle.std.proofs.Common.{◌*◌, map}
use Rattle.su_steps.specs.PairSymbols.{place_symbol}
use Rattle.su_steps.specs.inside.Numbers.{class_name}
use Rattle.su_steps.proofs.Equal.{head_more, head_all, some_false, none_more, none_all}
use Rattle.su_steps.proofs.building.build_head.Goals as goal

pub returns-then-not-says : goal.returns-then-not-says
returns-then-not-says c =
    let k = c.args.classes.now in
    some_false (class_name (c.args.variables * k.width) k) k.width c.args.places.now c.args.literals.now c.loop-literal.literal-index c.literal-item.result c.loop-literal-test.true c.literal-item.is (c.in_ok-says.ensures.is_false c.if-not-says.true)

pub loop-literal-preserved : goal.loop-literal-preserved
loop-literal-preserved c =
    let k = c.args.classes.now in
    let name = class_name (c.args.variables * k.width) k in
    record {
      not_false = none_more name k.width c.args.places.now c.args.literals.now c.loop-literal.literal-index c.literal-item.result c.loop-literal-test.true c.literal-item.is c.loop-literal.invariant.not_false (c.in_ok-says.ensures.not_false c.if-not-says.false);
      is = head_more name (map (λ i. name (place_symbol k.width c.args.places.now i)) c.args.outputs.now) k.width c.args.places.now c.args.literals.now c.loop-literal.literal-index c.literal-item.result _ _ c.loop-literal-test.true c.literal-item.is c.loop-literal.invariant.is (c.in_ok-says.ensures.pushed c.if-not-says.false);
    }

pub returns : goal.returns
returns c =
    let k = c.args.classes.now in
    let name = class_name (c.args.variables * k.width) k in (
      none_all name k.width c.args.places.now c.args.literals.now c.loop-literal.literal-index c.loop-literal-test.false c.loop-literal.invariant.not_false,
      head_all name (map (λ i. name (place_symbol k.width c.args.places.now i)) c.args.outputs.now) k.width c.args.places.now c.args.literals.now c.loop-literal.literal-index _ c.loop-literal-test.false c.loop-literal.invariant.is,
    )
