-- The bytes of the first token are the front that it takes; where it is a word these bytes are one, so that what the token says is the first symbol.
use Rattle.std.proofs.Common.{◌≡◌, ap, sym, ◌∙◌, subst, take}
use Rattle.std.proofs.lemmas.List.{take_at}
use Rattle.su_base.specs.Name.{IsWord}
use Rattle.su_lex.proofs.Lists.{word_token}
use Rattle.su_lex.proofs.OneByOne.{first_symbol_from}
use Rattle.su_lex.proofs.meaning.first_symbol.Goals as goal

pub symbol_at-requires : goal.symbol_at-requires
symbol_at-requires c is =
    let f = c.in_ok-kind.ensures.found in
    let front : take c.in_ok-kind.n c.args.text.now ≡ f.0 = ap (take c.in_ok-kind.n) f.2 ∙ take_at f.0 f.1 c.in_ok-kind.n (sym f.3) in
    subst IsWord (sym front) (word_token c.in_ok-kind.kind f.0 f.1 f.4 is)

pub returns-clause-found : goal.returns-clause-found
returns-clause-found c = first_symbol_from c.args.text.now c.in_ok-kind.kind c.in_ok-kind.n c.in_ok-symbol.symbol c.in_ok-kind.ensures.found c.in_ok-symbol.ensures
