-- The first token is the first symbol: a number or a text of some content, or the sign found there.
use Rattle.std.proofs.Common.{sym, refl, subst}
use Rattle.su_lex.specs.declared.kinds.TokenKind.TheVariants as kind
use Rattle.su_lex.specs.declared.meaning.Symbol.TheVariants.{Int, Text, Sign}
use Rattle.su_lex.proofs.Fronts.{sign_found}
use Rattle.su_lex.proofs.OneByOne.{first_symbol_from}
use Rattle.su_faults.specs.inside.Firsts.{IsTextAt}
use Rattle.su_faults.proofs.firsts.first.Goals as goal

pub returns-in-Some : goal.returns-in-Some
returns-in-Some c =
    let f = c.in-Some.ensures in
    (Int f.0, first_symbol_from c.args.text.now (kind.Int f.0) c.in-Some.n (Int f.0) f.1 refl, (f.0, refl))

pub returns-in-Some-2 : goal.returns-in-Some-2
returns-in-Some-2 c =
    let f = subst (IsTextAt c.args.text.now) c.in-Some-2.is c.in_ok-n-in-OfText.ensures in
    (Text f.0, first_symbol_from c.args.text.now (kind.Text f.0) c.in-Some-2.n (Text f.0) f.1 refl, (f.0, refl))

pub returns-in-Some-sign_of : goal.returns-in-Some-sign_of
returns-in-Some-sign_of c =
    let s = c.in-Some-sign_of.sign in
    let f = sign_found c.args.text.now s (sym c.in-Some-sign_of.ensures) in
    (Sign s, rw c.sign_len.ensures (first_symbol_from c.args.text.now (kind.Sign s) _ (Sign s) f refl), refl)
