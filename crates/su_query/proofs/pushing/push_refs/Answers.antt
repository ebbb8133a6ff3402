-- One more ref stands behind a comma, unless it is the first.
use Rattle.std.proofs.Common.{◌∷◌, []}
use Rattle.su_lex.specs.declared.signs.Sign.TheVariants as sign
use Rattle.su_lex.specs.declared.meaning.Symbol.TheVariants.{Sign}
use Rattle.su_query.specs.ShownParts.{ref_symbols}
use Rattle.su_query.proofs.Joined.{listed_more}
use Rattle.su_query.proofs.pushing.push_refs.Goals as goal

pub loop-i-preserved : goal.loop-i-preserved
loop-i-preserved c =
    listed_more (Sign sign.Comma ∷ []) ref_symbols c.args.references.now c.loop-i.i c.index-references-i.result c.args.out.now c.loop-i.out c.push_sign_if.new.out c.push_ref.new.out c.loop-i-test.true c.index-references-i.is
    c.loop-i.invariant c.in_ok-push_sign_if.ensures c.in_ok-push_ref.ensures
