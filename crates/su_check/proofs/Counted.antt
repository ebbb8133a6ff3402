-- A certificate has no more terms than its text has bytes.
use Rattle.std.proofs.Common.{◌≤◌, ℕ, List, [], ◌∷◌, ◌++◌, map, flat_map, length, refl, ap, arith}
use Rattle.std.proofs.lemmas.List.{length-append, length-map}
use Rattle.su_lex.specs.declared.kinds.Token.{Token}
use Rattle.su_lex.specs.Tokens.{TokensAt}
use Rattle.su_lex.specs.Symbols.{symbol_of}
use Rattle.su_lex.proofs.Gaps.{gap_within}
use Rattle.su_lex.proofs.Lists.{first_len}
use Rattle.su_check.specs.declared.certificates.Certificate.{Certificate}
use Rattle.su_check.specs.declared.certificates.StatedTerm.{StatedTerm}
use Rattle.su_lex.specs.Wordings.{kind_symbol}
use Rattle.su_check.specs.Grammar.{Reads}
use Rattle.su_check.specs.inside.LineReaders.{term_symbols}
use Rattle.su_check.proofs.TermSymbols.{certificate_at}

tokens_within : (total : ℕ) (text : List ℕ) (ts : List Token) → TokensAt total text ts → length ts ≤ length text
tokens_within total text [] a = omega arith
tokens_within total text (t ∷ ts) a =
    let gap = gap_within text a.0 a.3 in
    let some = first_len a.0 t.kind (length a.1) (a.1, a.2, a.4, refl, a.5) in
    let more = tokens_within total a.2 ts a.8 in
    omega (arith, gap, some, more, ap length a.4, length-append a.1 a.2)

terms_within : (xs : List StatedTerm) → length xs ≤ length (flat_map term_symbols xs ++ [])
terms_within [] = omega arith
terms_within (x ∷ xs) =
    let more = terms_within xs in
    omega (arith, more, length-append (term_symbols x ++ flat_map term_symbols xs) [], length-append (term_symbols x) (flat_map term_symbols xs), length-append (flat_map term_symbols xs) [])

pub few_terms : (bytes : List ℕ) (c : Certificate) → Reads bytes c → length c.terms ≤ length bytes
few_terms bytes c is =
    let s = is.spelled in
    let tokens = tokens_within (length bytes) bytes s.0 s.1 in
    let symbols = ap length s.2 in
    let same = ap length is.form in
    let all = ap length (certificate_at c) in
    let terms = terms_within c.terms in
    omega (arith, tokens, symbols, length-map s.0 (symbol_of bytes), same, all, terms, length-append (map kind_symbol c.kinds) (flat_map term_symbols c.terms ++ []))
