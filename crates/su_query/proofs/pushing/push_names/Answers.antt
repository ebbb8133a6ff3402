-- One more name stands behind a comma, unless it is the first.
use Rattle.std.proofs.Common.{◌∷◌, []}
use Rattle.su_lex.specs.declared.signs.Sign.TheVariants as sign
use Rattle.su_lex.specs.declared.meaning.Symbol.TheVariants.{Word, Sign}
use Rattle.su_query.proofs.Joined.{listed_more}
use Rattle.su_query.proofs.pushing.push_names.Goals as goal

pub loop-i-preserved : goal.loop-i-preserved
loop-i-preserved c =
    listed_more (Sign sign.Comma ∷ []) (λ n. Word n ∷ []) c.args.names.now c.loop-i.i c.index-names-i.result c.args.out.now c.loop-i.out c.push_sign_if.new.out c.push_word.new.out c.loop-i-test.true c.index-names-i.is
    c.loop-i.invariant c.in_ok-push_sign_if.ensures (rw c.as_str.ensures at c.in_ok-push_word.ensures.ok)
