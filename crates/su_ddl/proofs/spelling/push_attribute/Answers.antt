-- The symbols added one after another are the word, the name and the kind, which is how the definition is spelled.
use Rattle.std.proofs.Common.{◌∷◌, [], codes}
use Rattle.su_lex.specs.declared.meaning.Symbol.TheVariants.{Word}
use Rattle.su_lex.specs.Wordings.{kind_symbol}
use Rattle.su_ddl.proofs.Lines.{chain}
use Rattle.su_ddl.proofs.spelling.push_attribute.Goals as goal

pub returns : goal.returns
returns c =
    let two = chain c.args.out.now c.push_word.new.out c.push_word-2.new.out (Word (codes "attribute") ∷ []) (Word c.args.name.now ∷ []) c.in_ok-push_word.ensures.ok
    (rw c.as_str.ensures at c.in_ok-push_word-2.ensures.ok) in
    chain c.args.out.now c.push_word-2.new.out c.push_kind.new.out (Word (codes "attribute") ∷ Word c.args.name.now ∷ []) (kind_symbol c.args.kind ∷ []) two c.in_ok-push_kind.ensures.ok
