-- A refusal contradicts the form: if the symbols spelled an object, its name, its attributes, its relation and its columns are the only ones there, and each would have been read.
use Rattle.std.proofs.Common.{◌≡◌, ◌∷◌, [], sym, ap, ◌∙◌, arith, length, Err, codes}
use Rattle.std.proofs.lemmas.List.{nil_from_length}
use Rattle.std.proofs.lemmas.Result.{err_from_is_err_and}
use Rattle.su_lex.specs.declared.ends.LexEnd.TheVariants.{Syntax}
use Rattle.su_lex.specs.declared.meaning.Symbol.TheVariants.{Word}
use Rattle.su_ddl.specs.Grammar.{in_parens}
use Rattle.su_ddl.proofs.NameLists.{parens_unique}
use Rattle.su_ddl.proofs.Formed.{object_form, behind_name, same_attributes, behind_from, behind_relation, pairs_lengths}
use Rattle.su_ddl.proofs.forms.object.Goals as goal

pub returns-in_err-attributes-clause-syntax : goal.returns-in_err-attributes-clause-syntax
returns-in_err-attributes-clause-syntax c =
    let p = err_from_is_err_and c.from_residual-in_err-attributes.result c.from_residual-in_err-attributes.ensures.1 in
    rw (p.1, p.2) (λ s d is.
    let h : c.in_err-attributes.field-0.0 ≡ Syntax = cc in
    let f = object_form _ d is in
    c.in_err-attributes.ensures.syntax (ap Err h) _ _ f.attributes (behind_name f c.in_ok-name.ensures.found.0)
    )

pub returns-in_err-expect_word-clause-syntax : goal.returns-in_err-expect_word-clause-syntax
returns-in_err-expect_word-clause-syntax c =
    let p = err_from_is_err_and c.from_residual-in_err-expect_word.result c.from_residual-in_err-expect_word.ensures.1 in
    rw (p.1, p.2) (λ s d is.
    let h : c.in_err-expect_word.field-0.0 ≡ Syntax = cc in
    let f = object_form _ d is in
    let u = same_attributes f c.in_ok-name.ensures.found.0 c.in_ok-attributes.attributes _ c.in_ok-attributes.ensures.found in
    c.in_err-expect_word.ensures.syntax (ap Err h) (_, u.rest)
    )

pub returns-in_err-relation-clause-syntax : goal.returns-in_err-relation-clause-syntax
returns-in_err-relation-clause-syntax c =
    let p = err_from_is_err_and c.from_residual-in_err-relation.result c.from_residual-in_err-relation.ensures.1 in
    rw (p.1, p.2) (λ s d is.
    let h : c.in_err-relation.field-0.0 ≡ Syntax = cc in
    let f = object_form _ d is in
    c.in_err-relation.ensures.syntax (ap Err h) f.relation f.stored (_, behind_from f c.in_ok-name.ensures.found.0 c.in_ok-attributes.attributes _ c.in_ok-attributes.ensures.found c.in_ok-expect_word.ensures.found)
    )

pub returns-in_err-columns-clause-syntax : goal.returns-in_err-columns-clause-syntax
returns-in_err-columns-clause-syntax c =
    let p = err_from_is_err_and c.from_residual-in_err-columns.result c.from_residual-in_err-columns.ensures.1 in
    rw (p.1, p.2) (λ s d is.
    let h : c.in_err-columns.field-0.0 ≡ Syntax = cc in
    let f = object_form _ d is in
    let last = behind_relation f c.in_ok-name.ensures.found.0 c.in_ok-attributes.attributes _ c.in_ok-attributes.ensures.found c.in_ok-expect_word.ensures.found c.in_ok-relation.ensures.found.0 in
    c.in_err-columns.ensures.syntax (ap Err h) _ [] f.columns last
    )

pub returns-in_err-end-clause-syntax : goal.returns-in_err-end-clause-syntax
returns-in_err-end-clause-syntax c =
    let p = err_from_is_err_and c.from_residual-in_err-end.result c.from_residual-in_err-end.ensures.1 in
    rw (p.1, p.2) (λ s d is.
    let h : c.in_err-end.field-0.0 ≡ Syntax = cc in
    let f = object_form _ d is in
    let last = behind_relation f c.in_ok-name.ensures.found.0 c.in_ok-attributes.attributes _ c.in_ok-attributes.ensures.found c.in_ok-expect_word.ensures.found c.in_ok-relation.ensures.found.0 in
    let o = c.in_ok-columns.ensures.found in
    let v = parens_unique c.in_ok-columns.columns _ _ [] o.1 f.columns (sym o.0 ∙ last) in
    let some = c.in_err-end.ensures.syntax (ap Err h) in
    absurd (omega (arith, ap length v.rest, some))
    )

pub returns-then-len-clause-syntax : goal.returns-then-len-clause-syntax
returns-then-len-clause-syntax c = λ s d is.
    let f = object_form _ d is in
    let u = same_attributes f c.in_ok-name.ensures.found.0 c.in_ok-attributes.attributes _ c.in_ok-attributes.ensures.found in
    let last = behind_relation f c.in_ok-name.ensures.found.0 c.in_ok-attributes.attributes _ c.in_ok-attributes.ensures.found c.in_ok-expect_word.ensures.found c.in_ok-relation.ensures.found.0 in
    let o = c.in_ok-columns.ensures.found in
    let v = parens_unique c.in_ok-columns.columns _ _ [] o.1 f.columns (sym o.0 ∙ last) in
    c.if-len.true (c.len.ensures ∙ ap length u.names ∙ pairs_lengths f.pairs ∙ sym (ap length v.names) ∙ sym c.len-2.ensures)

pub returns-clause-found : goal.returns-clause-found
returns-clause-found c =
    let n = c.in_ok-name.ensures.found in
    let a = c.in_ok-attributes.ensures.found in
    let k = c.in_ok-expect_word.ensures.found in
    let m = c.in_ok-relation.ensures.found in
    let o = c.in_ok-columns.ensures.found in
    let nil = nil_from_length _ c.in_ok-end.ensures.found in
    let attributes = c.in_ok-pairs.ensures.attributes ∙ c.as_slice.ensures in
    let columns = c.in_ok-pairs.ensures.columns ∙ c.as_slice-2.ensures in
    let last = m.0 ∙ ap (λ x. Word c.in_ok-relation.relation ∷ x) (o.0 ∙ ap (in_parens c.in_ok-columns.columns) nil) in
    let inner = a.0 ∙ ap (in_parens c.in_ok-attributes.attributes) (k ∙ ap (λ x. Word (codes "from") ∷ x) last) in
    rw (attributes, columns) (ap (λ x. Word (codes "object") ∷ x) (n.0 ∙ ap (λ x. Word c.in_ok-name.name ∷ x) inner), (n.1, m.1, a.1, o.1))
