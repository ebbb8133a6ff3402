-- The list of symbols, one at a time.
use Rattle.std.proofs.Common.{◌≡◌, ◌<◌, ◌≤◌, ℕ, List, [], ◌∷◌, ◌++◌, length, take, drop, refl, ap, sym, ◌∙◌, arith, subst}
use Rattle.std.proofs.lemmas.List.{take_at, drop_at}
use Rattle.su_lex.specs.Blanks.{Gap}
use Rattle.su_lex.specs.Blanks as b
use Rattle.su_lex.specs.Symbols.{symbol_at}
use Rattle.su_lex.specs.inside.Firsts.{IsFirstToken, HasNoFirstToken, IsTokenOf, IsFirstSymbol}
use Rattle.su_lex.specs.declared.kinds.TokenKind.{TokenKind}
use Rattle.su_lex.specs.declared.meaning.Symbol.{Symbol}
use Rattle.su_lex.proofs.Gaps.{IsSolid, gap_same, gap_solid, gap_trans}
use Rattle.su_lex.proofs.Lists.{token_solid, token_unique, first_len, nil_solid}
use Rattle.su_lex.proofs.Written.{SymbolsAt, a_token, is_token_of}

-- the first token's symbol is the first symbol
pub first_symbol_from : (text : List ℕ) (k : TokenKind) (n : ℕ) (x : Symbol) → IsFirstToken text k n → x ≡ symbol_at k (take n text) → IsFirstSymbol text x n
first_symbol_from text k n x f e =
    let front : take n text ≡ f.0 = ap (take n) f.2 ∙ take_at f.0 f.1 n (sym f.3) in
    (f.0, f.1, f.2, f.3, subst (λ (y : Symbol). IsTokenOf y f.0 f.1) (sym (e ∙ ap (symbol_at k) front)) (is_token_of k f.0 f.1 f.4))

symbol_solid : (x : Symbol) (front rest : List ℕ) → IsTokenOf x front rest → IsSolid (front ++ rest)
symbol_solid x front rest t = let a = a_token x front rest t in token_solid a.kind front rest a.is

first_solid : (text : List ℕ) (x : Symbol) (n : ℕ) → IsFirstSymbol text x n → IsSolid text
first_solid text x n f = subst IsSolid (sym f.2) (symbol_solid x f.0 f.1 f.4)

pub symbol_len : (text : List ℕ) (x : Symbol) (n : ℕ) → IsFirstSymbol text x n → (0 < n) × (n ≤ length text)
symbol_len text x n f = let a = a_token x f.0 f.1 f.4 in first_len text a.kind n (f.0, f.1, f.2, f.3, a.is)

-- ---- symbols before and behind a gap

pub symbols_before : (s r : List ℕ) (xs : List Symbol) → Gap s r → SymbolsAt r xs → SymbolsAt s xs
symbols_before s r [] g a = gap_trans s r [] g a
symbols_before s r (x ∷ xs) g a = (a.0, a.1, a.2, gap_trans s r a.0 g a.3, a.4, a.5, a.6)

pub symbols_behind : (s r : List ℕ) (xs : List Symbol) → Gap s r → IsSolid r → SymbolsAt s xs → SymbolsAt r xs
symbols_behind s r [] g solid a = b.none r [] (gap_same s r [] g solid a nil_solid)
symbols_behind s r (x ∷ xs) g solid a =
    let stays = subst IsSolid (sym a.4) (symbol_solid x a.1 a.2 a.5) in
    (a.0, a.1, a.2, b.none r a.0 (gap_same s r a.0 g solid a.3 stays), a.4, a.5, a.6)

-- ---- one symbol more

pub symbol_more : (text : List ℕ) (x : Symbol) (n : ℕ) (xs : List Symbol) → IsFirstSymbol text x n → SymbolsAt (drop n text) xs → SymbolsAt text (x ∷ xs)
symbol_more text x n xs f more =
    let behind : drop n text ≡ f.1 = ap (drop n) f.2 ∙ drop_at f.0 f.1 n (sym f.3) in
    (text, f.0, f.1, b.none text text refl, f.2, f.4, subst (λ (v : List ℕ). SymbolsAt v xs) behind more)

pub record PeeledSymbol (text : List ℕ) (x : Symbol) (n : ℕ) (all : List Symbol) : Type 0 where
  pub more : List Symbol
  pub all_is : all ≡ x ∷ more
  pub behind : SymbolsAt (drop n text) more

-- the symbols of a text begin with its first one
pub peel_symbol : (text : List ℕ) (x : Symbol) (n : ℕ) (all : List Symbol) → IsFirstSymbol text x n → SymbolsAt text all → PeeledSymbol text x n all
peel_symbol text x n [] f a =
    let nil = gap_solid text [] (first_solid text x n f) a in
    absurd (omega (arith, ap length nil, symbol_len text x n f))
peel_symbol text x n (y ∷ ys) f a =
    let here = gap_solid text a.0 (first_solid text x n f) a.3 in
    let t = a_token x f.0 f.1 f.4 in
    let u = a_token y a.1 a.2 a.5 in
    let s = token_unique t.kind u.kind f.0 f.1 a.1 a.2 t.is u.is (sym f.2 ∙ here ∙ a.4) in
    let behind : drop n text ≡ a.2 = ap (drop n) f.2 ∙ drop_at f.0 f.1 n (sym f.3) ∙ s.rest in
    let same : x ≡ y = sym t.symbol ∙ ap (λ k. symbol_at k f.0) s.kind ∙ ap (symbol_at u.kind) s.front ∙ u.symbol in
    record { more = ys; all_is = ap (λ v. v ∷ ys) (sym same); behind = subst (λ (v : List ℕ). SymbolsAt v ys) (sym behind) a.6 }

pub no_symbols : (text : List ℕ) (all : List Symbol) → HasNoFirstToken text → IsSolid text → 0 < length text → SymbolsAt text all → ⊥
no_symbols text [] none solid some a = let nil = gap_solid text [] solid a in omega (arith, ap length nil)
no_symbols text (x ∷ xs) none solid some a =
    let t = a_token x a.1 a.2 a.5 in
    none t.kind a.1 a.2 (gap_solid text a.0 solid a.3 ∙ a.4) t.is
