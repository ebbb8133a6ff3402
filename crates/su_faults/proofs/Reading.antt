-- The tokens of a text, read up to a place.
use Rattle.std.proofs.Common.{◌≡◌, ℕ, List, [], ◌∷◌, ◌++◌, drop, sym, ap, ◌∙◌, subst}
use Rattle.std.proofs.lemmas.List.{drop_at}
use Rattle.su_lex.specs.Blanks.{Gap}
use Rattle.su_lex.specs.Symbols.{symbol_at}
use Rattle.su_lex.specs.inside.Firsts.{IsTokenOf, IsFirstSymbol}
use Rattle.su_lex.specs.declared.meaning.Symbol.{Symbol}
use Rattle.su_lex.proofs.Lists.{token_unique}
use Rattle.su_lex.proofs.Written.{SymbolsAt, a_token, is_token_of}
use Rattle.su_faults.specs.Faults.{IsTokenFor, Reads}

pub token_for : (x : Symbol) (front rest : List ℕ) → IsTokenOf x front rest → IsTokenFor x front rest
token_for x front rest t = let a = a_token x front rest t in (a.kind, a.is, a.symbol)

pub token_of : (x : Symbol) (front rest : List ℕ) → IsTokenFor x front rest → IsTokenOf x front rest
token_of x front rest t = subst (λ (y : Symbol). IsTokenOf y front rest) t.2 (is_token_of t.0 front rest t.1)

-- one symbol more
pub reads_push : (before : List Symbol) (text rest next : List ℕ) (x : Symbol) (n : ℕ) → Reads before text rest → IsFirstSymbol rest x n → Gap (drop n rest) next → Reads (before ++ x ∷ []) text next
reads_push [] text rest next x n gap f behind =
    let same : drop n rest ≡ f.1 = ap (drop n) f.2 ∙ drop_at f.0 f.1 n (sym f.3) in
    (rest, f.0, f.1, gap, f.2, token_for x f.0 f.1 f.4, subst (λ (v : List ℕ). Gap v next) same behind)
reads_push (y ∷ ys) text rest next x n a f behind = (a.0, a.1, a.2, a.3, a.4, a.5, reads_push ys a.2 rest next x n a.6 f behind)

-- what is read to the end are the symbols of the text
pub symbols_read : (before : List Symbol) (text : List ℕ) → Reads before text [] → SymbolsAt text before
symbols_read [] text gap = gap
symbols_read (x ∷ xs) text a = (a.0, a.1, a.2, a.3, a.4, token_of x a.1 a.2 a.5, symbols_read xs a.2 a.6)

-- a text has one first symbol
pub same_symbol : (rest : List ℕ) (x y : Symbol) (n : ℕ) (front r : List ℕ) → IsFirstSymbol rest y n → rest ≡ front ++ r → IsTokenFor x front r → x ≡ y
same_symbol rest x y n front r f e t =
    let u = a_token y f.0 f.1 f.4 in
    let s = token_unique u.kind t.0 f.0 f.1 front r u.is t.1 (sym f.2 ∙ e) in
    sym t.2 ∙ ap (λ k. symbol_at k front) (sym s.kind) ∙ ap (symbol_at u.kind) (sym s.front) ∙ u.symbol
