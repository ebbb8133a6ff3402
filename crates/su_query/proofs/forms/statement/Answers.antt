-- The first word tells the form; where it is none of nine words, only a query is left.
use Rattle.std.proofs.Common.{◌≡◌, ℕ, refl, ap, ◌∙◌, subst, Err, List}
use Rattle.std.proofs.lemmas.Result.{err_from_is_err_and}
use Rattle.su_lex.specs.declared.ends.LexEnd.TheVariants.{Syntax}
use Rattle.su_lex.specs.declared.meaning.Symbol.{Symbol}
use Rattle.su_lex.specs.declared.meaning.Symbol.TheVariants.{Word}
use Rattle.su_lex.specs.Names.{Begins}
use Rattle.su_query.specs.declared.statements.Query.{Query as AQuery}
use Rattle.su_query.specs.declared.statements.Statement.{Statement}
use Rattle.su_query.specs.inside.ReadForms as g
use Rattle.su_query.specs.inside.ReadQueries.{QueryForm}
use Rattle.su_query.specs.inside.ReadForms.{ReadsForm}
use Rattle.su_query.proofs.Exits.{none_left}
use Rattle.su_query.proofs.forms.statement.Goals as goal
use Rattle.su_query.proofs.forms.statement.Goals.{After-query_form}

-- a word that isn't next leaves the reader where it stands
stays : (w : List ℕ) (s t u : List Symbol) → t ≡ s → (u ≡ t) × ¬ (Begins (Word w) t) → (u ≡ s) × ¬ (Begins (Word w) s)
stays w s t u e n = (n.0 ∙ e, subst (λ (x : List Symbol). ¬ (Begins (Word w) x)) e n.1)

-- none of the nine words is next: so the reader stands where it began, and only a query is left
only_query : (c : After-query_form) → (c.takes_word-9.new.self ≡ c.args.reader.now) × (((q : AQuery) → QueryForm q c.args.reader.now → ⊥) → (st : Statement) → ReadsForm st c.args.reader.now → ⊥)
only_query c =
    let n1 = c.if-takes_word.ensures.no refl in
    let n2 = stays _ _ _ _ n1.0 (c.if-takes_word-2.ensures.no refl) in
    let n3 = stays _ _ _ _ n2.0 (c.if-takes_word-3.ensures.no refl) in
    let n4 = stays _ _ _ _ n3.0 (c.if-takes_word-4.ensures.no refl) in
    let n5 = stays _ _ _ _ n4.0 (c.if-takes_word-5.ensures.no refl) in
    let n6 = stays _ _ _ _ n5.0 (c.if-takes_word-6.ensures.no refl) in
    let n7 = stays _ _ _ _ n6.0 (c.if-takes_word-7.ensures.no refl) in
    let n8 = stays _ _ _ _ n7.0 (c.if-takes_word-8.ensures.no refl) in
    let n9 = stays _ _ _ _ n8.0 (c.if-takes_word-9.ensures.no refl) in
    (n9.0, none_left c.args.reader.now n1.1 n2.1 n3.1 n4.1 n5.1 n6.1 n7.1 n8.1 n9.1)

pub returns-in_err-query-clause-syntax : goal.returns-in_err-query-clause-syntax
returns-in_err-query-clause-syntax c =
    let p = err_from_is_err_and c.from_residual.result c.from_residual.ensures.1 in
    let n = only_query (goal.at.returns-in_err-query-clause-syntax c).After-query_form in
    rw (p.1, p.2) (λ s st f.
    let h : c.in_err-query.field-0.0 ≡ Syntax = cc in
    n.1 (subst (λ (x : List Symbol). (q : AQuery) → QueryForm q x → ⊥) n.0 (c.in_err-query.ensures.syntax (ap Err h))) st f)

pub returns-clause-found : goal.returns-clause-found
returns-clause-found c =
    let n = only_query (goal.at.returns-clause-found c).After-query_form in
    g.retrieve _ _ _ refl (subst (λ (x : List Symbol). QueryForm c.in_ok-query.query x) n.0 c.in_ok-query.ensures.found)
