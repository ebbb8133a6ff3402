-- One more value stands behind a comma, unless it is the first.
use Rattle.std.proofs.Common.{◌∷◌, []}
use Rattle.su_lex.specs.declared.signs.Sign.TheVariants as sign
use Rattle.su_lex.specs.declared.meaning.Symbol.TheVariants.{Sign}
use Rattle.su_query.specs.ShownParts.{value_symbols}
use Rattle.su_query.proofs.Joined.{listed_more}
use Rattle.su_query.proofs.pushing.push_values.Goals as goal

pub loop-i-preserved : goal.loop-i-preserved
loop-i-preserved c =
    listed_more (Sign sign.Comma ∷ []) value_symbols c.args.values.now c.loop-i.i c.index-values-i.result c.args.out.now c.loop-i.out c.push_sign_if.new.out c.push_value.new.out c.loop-i-test.true c.index-values-i.is
    c.loop-i.invariant c.in_ok-push_sign_if.ensures c.in_ok-push_value.ensures
