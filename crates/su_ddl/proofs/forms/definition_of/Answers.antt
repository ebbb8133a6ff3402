-- Each form begins with a word of its own, so symbols that begin with none of the five are no definition, and the first word tells which form may be there.
use Rattle.std.proofs.Common.{◌≡◌, List, sym, ◌∙◌, refl, subst, codes}
use Rattle.su_lex.specs.Names.{Begins}
use Rattle.su_lex.specs.declared.meaning.Symbol.{Symbol}
use Rattle.su_lex.specs.declared.meaning.Symbol.TheVariants.{Word}
use Rattle.su_schema.specs.declared.definitions.Definition.{Definition}
use Rattle.su_schema.specs.declared.definitions.Definition.TheVariants.{Attribute, Relation, Object, Fd, Maximal}
use Rattle.su_ddl.specs.Grammar.{IsForm}
use Rattle.su_ddl.proofs.forms.definition_of.Goals as goal

-- each form begins with its own word
formless : (s : List Symbol) → ¬ (Begins (Word (codes "attribute")) s) → ¬ (Begins (Word (codes "relation")) s) → ¬ (Begins (Word (codes "object")) s) → ¬ (Begins (Word (codes "fd")) s)
    → ¬ (Begins (Word (codes "maximal")) s) → (d : Definition) → ¬ (IsForm s d)
formless s a r o f m (Attribute name kind) is = a (_, is.0)
formless s a r o f m (Relation name columns) is = r (_, is.0)
formless s a r o f m (Object name relation pairs) is = o (_, is.0)
formless s a r o f m (Fd left right) is = f (_, is.0)
formless s a r o f m (Maximal objects) is = m (_, is.0)

other : (w : Symbol) (s t : List Symbol) → s ≡ t → ¬ (Begins w t) → ¬ (Begins w s)
other w s t e none begins = none (subst (λ (x : List Symbol). Begins w x) e begins)

pub returns-clause-syntax : goal.returns-clause-syntax
returns-clause-syntax c = λ s d is.
    let symbols : List Symbol = c.args.symbols in
    let a = c.if-takes_word.ensures.no refl in
    let r = c.if-takes_word-2.ensures.no refl in
    let o = c.if-takes_word-3.ensures.no refl in
    let f = c.if-takes_word-4.ensures.no refl in
    let m = c.if-takes_word-5.ensures.no refl in
    let first = sym c.new-reader.ensures in
    let second = first ∙ sym a.0 in
    let third = second ∙ sym r.0 in
    let fourth = third ∙ sym o.0 in
    let fifth = fourth ∙ sym f.0 in
    formless symbols (other (Word (codes "attribute")) symbols _ first a.1) (other (Word (codes "relation")) symbols _ second r.1) (other (Word (codes "object")) symbols _ third o.1)
    (other (Word (codes "fd")) symbols _ fourth f.1) (other (Word (codes "maximal")) symbols _ fifth m.1) d is
