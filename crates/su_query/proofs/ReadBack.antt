-- A statement is shown in a text that is this statement.
use Rattle.std.proofs.Common.{◌≡◌, inl, inr, false, List, [], ◌∷◌, refl, ap, ◌∙◌, sym, subst, codes}
use Rattle.std.specs.Prelude.{if◌then◌else◌}
use Rattle.std.proofs.lemmas.List.Elements.{All-from_recursion, recursion_from_All}
use Rattle.su_lex.specs.declared.meaning.Symbol.{Symbol}
use Rattle.su_lex.specs.declared.meaning.Symbol.TheVariants.{Word}
use Rattle.su_lex.specs.Symbols.{IsSymbol}
use Rattle.su_lex.specs.Wordings.{in_parens}
use Rattle.su_lex.proofs.Written.{one_list_of_symbols, spaced_is_read}
use Rattle.su_where.specs.declared.conditions.Condition.TheVariants.{All}
use Rattle.su_query.specs.declared.statements.Query.{Query as AQuery}
use Rattle.su_query.specs.declared.statements.Statement.{Statement}
use Rattle.su_query.specs.declared.statements.Statement.TheVariants.{Insert, Delete, DeleteWhere, Load, Print, Schema, Closure, Retrieve, Explain, Certify, Support, Compare, Window}
use Rattle.su_query.specs.Refs.{NamedCond}
use Rattle.su_query.specs.Forms.{IsWhere, IsQuery, IsForm}
use Rattle.su_query.specs.StatementTexts.{ReadsAgain}
use Rattle.su_query.specs.ShownParts.{refs_symbols}
use Rattle.su_query.specs.ShownConditions.{cond_symbols}
use Rattle.su_query.specs.Shown.{is_nothing, where_symbols, query_symbols, statement_symbols}
use Rattle.su_query.proofs.CondShown.{nothing-All}
use Rattle.su_query.proofs.Round.{good_cond}
use Rattle.su_query.proofs.Genuine.{AreSymbols, append_are, front_of, behind_of, parens_are, within_parens, genuine_cond}

where_nothing : (c : NamedCond) → c ≡ All [] → where_symbols c ≡ []
where_nothing c e = ap where_symbols e ∙ ap (λ b. if b then [] else Word (codes "where") ∷ cond_symbols (All [])) (nothing-All [])

where_some : (c : NamedCond) → is_nothing c ≡ false → where_symbols c ≡ Word (codes "where") ∷ cond_symbols c
where_some c e = ap (λ b. if b then [] else Word (codes "where") ∷ cond_symbols c) e

-- ---- the shown symbols are of the same form

where_shown : (c : NamedCond) (s : List Symbol) → IsWhere c s → IsWhere c (where_symbols c)
where_shown c s (inl (nothing, e)) = inl (nothing, where_nothing c nothing)
where_shown c s (inr (t, h, e)) = let good = good_cond c t h in inr (cond_symbols c, good.bare, where_some c good.some)

query_shown : (q : AQuery) (s : List Symbol) → IsQuery q s → IsQuery q (query_symbols q)
query_shown q s h = record { some = h.some; refs = h.refs; condition = where_symbols q.cond; wanted = where_shown q.cond h.condition h.wanted; whole = refl }

form_shown : (st : Statement) (s : List Symbol) → IsForm st s → IsForm st (statement_symbols st)
form_shown (Insert relation row) s (named, some, w) = (named, some, refl)
form_shown (Delete relation row) s (named, some, w) = (named, some, refl)
form_shown (DeleteWhere relation c) s (named, columns, t, h, w) = (named, columns, cond_symbols c, (good_cond c t h).bare, refl)
form_shown (Load relation file) s (named, w) = (named, refl)
form_shown (Print relation) s (named, w) = (named, refl)
form_shown Schema s w = refl
form_shown (Closure names) s (are, w) = (are, refl)
form_shown (Retrieve q) s h = query_shown q s h
form_shown (Explain q) s (t, h, w) = (query_symbols q, query_shown q t h, refl)
form_shown (Certify q) s (t, h, w) = (query_symbols q, query_shown q t h, refl)
form_shown (Support q) s (t, h, w) = (query_symbols q, query_shown q t h, refl)
form_shown (Compare first second) s (t, u, h, k, w) = (query_symbols first, query_symbols second, query_shown first t h, query_shown second u k, refl)
form_shown (Window names) s (are, w) = (are, refl)

-- ---- and a text can have them

where_kept : (c : NamedCond) (s : List Symbol) → IsWhere c s → AreSymbols s → AreSymbols (where_symbols c)
where_kept c s (inl (nothing, e)) v = subst AreSymbols (sym (where_nothing c nothing)) tt
where_kept c s (inr (t, h, e)) v = let a = subst AreSymbols e v in subst AreSymbols (sym (where_some c (good_cond c t h).some)) (a.0, genuine_cond c t h a.1)

query_kept : (q : AQuery) (s : List Symbol) → IsQuery q s → AreSymbols s → AreSymbols (query_symbols q)
query_kept q s h v =
    let a = subst AreSymbols h.whole v in
    let refs = in_parens (refs_symbols q.outputs) in
    (a.0, append_are refs (where_symbols q.cond) (front_of refs h.condition a.1) (where_kept q.cond h.condition h.wanted (behind_of refs h.condition a.1)))

form_kept : (st : Statement) (s : List Symbol) → IsForm st s → AreSymbols s → AreSymbols (statement_symbols st)
form_kept (Insert relation row) s (named, some, w) v = subst AreSymbols w v
form_kept (Delete relation row) s (named, some, w) v = subst AreSymbols w v
form_kept (DeleteWhere relation c) s (named, columns, t, h, w) v = let a = subst AreSymbols w v in (a.0, (a.1.0, (a.1.1.0, genuine_cond c t h a.1.1.1)))
form_kept (Load relation file) s (named, w) v = subst AreSymbols w v
form_kept (Print relation) s (named, w) v = subst AreSymbols w v
form_kept Schema s w v = subst AreSymbols w v
form_kept (Closure names) s (are, w) v = subst AreSymbols w v
form_kept (Retrieve q) s h v = query_kept q s h v
form_kept (Explain q) s (t, h, w) v = let a = subst AreSymbols w v in (a.0, query_kept q t h a.1)
form_kept (Certify q) s (t, h, w) v = let a = subst AreSymbols w v in (a.0, (a.1.0, query_kept q t h a.1.1))
form_kept (Support q) s (t, h, w) v = let a = subst AreSymbols w v in (a.0, (a.1.0, query_kept q t h a.1.1))
form_kept (Compare first second) s (t, u, h, k, w) v =
    let a = subst AreSymbols w v in
    let behind = behind_of (in_parens t) (Word (codes "with") ∷ in_parens u) a.1 in
    let one = query_kept first t h (within_parens t (front_of (in_parens t) (Word (codes "with") ∷ in_parens u) a.1)) in
    let other = query_kept second u k (within_parens u behind.1) in
    (a.0, append_are (in_parens (query_symbols first)) (Word (codes "with") ∷ in_parens (query_symbols second)) (parens_are (query_symbols first) one) (behind.0, parens_are (query_symbols second) other))
form_kept (Window names) s (are, w) v = subst AreSymbols w v

pub reads_again : (st : Statement) → ReadsAgain st
reads_again st text h shallow =
    let given = recursion_from_All IsSymbol h.symbols (one_list_of_symbols text h.symbols h.symbols h.spelled h.spelled).1 in
    let all = All-from_recursion IsSymbol (statement_symbols st) (form_kept st h.symbols h.form given) in
    let spelled = spaced_is_read (statement_symbols st) all in
    record { symbols = statement_symbols st; spelled = spelled; shallow = λ deep. shallow (statement_symbols st, spelled, deep); form = form_shown st h.symbols h.form }
