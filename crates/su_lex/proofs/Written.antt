-- Symbols that are written with spaces are read as the same symbols.
use Rattle.std.proofs.Common.{◌≡◌, ◌<◌, ◌+◌, ◌^◌, ℕ, ℤ, pos, negsuc, Bool, true, false, ◌||◌, ◌==◌, List, [], ◌∷◌, ◌++◌, length, length-append, append_assoc, map, All, refl, ap, sym, ◌∙◌, arith, rules, suc, subst}
use lib.IntN.{neg_ℤ}
use Rattle.std.specs.Char.{is_ascii_digit}
use Rattle.std.specs.Fmt.{decimal, signed_decimal}
use Rattle.std.specs.Int.{w64}
use Rattle.std.specs.Int.RustNames.{FitsSigned}
use Rattle.std.specs.List.{list_all, AllByRecursion}
use Rattle.std.specs.Str.Parse.{digits_value, signed_digits_value}
use Rattle.std.proofs.lemmas.Bool.{false≢true}
use Rattle.std.proofs.lemmas.Bool.Decides.{nat_tests}
use Rattle.std.proofs.lemmas.List.Elements.{All-from_recursion, recursion_from_All}
use Rattle.std.proofs.lemmas.Str.Parse.{IsNumeralModel, numerals_by_value}
use Rattle.std.proofs.lemmas.Fmt.{digits_decimal, digits_value-decimal, decimal_nonempty}
use Rattle.su_base.specs.Name.{is_letter_or_digit, IsWord}
use Rattle.su_lex.specs.Blanks.{begins, Gap}
use Rattle.su_lex.specs.Blanks as b
use Rattle.su_lex.specs.TokenForms.{lengthens, IsNumeral, IsToken}
use Rattle.su_lex.specs.Tokens.{TokensAt}
use Rattle.su_lex.specs.inside.Firsts.{IsTokenOf}
use Rattle.su_lex.specs.declared.meaning.Symbol.{Symbol}
use Rattle.su_lex.specs.declared.meaning.Symbol.TheVariants.{Word, Int, Text, Sign}
use Rattle.su_lex.specs.Symbols.{symbol_at, symbol_of, Symbols, IsSymbol}
use Rattle.su_lex.specs.Spelling.{spelled, opens, closes, after, spaced}
use Rattle.su_lex.specs.declared.kinds.Token.{Token}
use Rattle.su_lex.specs.declared.kinds.TokenKind.{TokenKind}
use Rattle.su_lex.specs.declared.kinds.TokenKind.TheVariants as kind
use Rattle.su_lex.specs.declared.signs.Sign.TheVariants as sign
use Rattle.su_lex.proofs.Gaps.{gap_suffix}
use Rattle.su_lex.proofs.Lists.{sliced, one_list_of_tokens}
use Rattle.su_lex.proofs.Fronts.{begins_none}

-- the symbols of a text, one after another
abbrev pub SymbolsAt : List ℕ → List Symbol → Type 0
SymbolsAt text [] = Gap text []
SymbolsAt text (x ∷ xs) = (s : List ℕ) × (front : List ℕ) × (rest : List ℕ) × Gap text s × (s ≡ front ++ rest) × IsTokenOf x front rest × SymbolsAt rest xs

-- ---- from tokens to symbols and back

pub is_token_of : (k : TokenKind) (front rest : List ℕ) → IsToken k front rest → IsTokenOf (symbol_at k front) front rest
is_token_of kind.Word front rest t = (refl, t)
is_token_of (kind.Int n) front rest t = t
is_token_of (kind.Text s) front rest t = t
is_token_of (kind.Sign s) front rest t = t

pub record AToken (x : Symbol) (front rest : List ℕ) : Type 0 where
  pub kind : TokenKind
  pub is : IsToken kind front rest
  pub symbol : symbol_at kind front ≡ x

pub a_token : (x : Symbol) (front rest : List ℕ) → IsTokenOf x front rest → AToken x front rest
a_token (Word w) front rest t = record { kind = kind.Word; is = t.1; symbol = ap Word t.0 }
a_token (Int n) front rest t = record { kind = kind.Int n; is = t; symbol = refl }
a_token (Text s) front rest t = record { kind = kind.Text s; is = t; symbol = refl }
a_token (Sign s) front rest t = record { kind = kind.Sign s; is = t; symbol = refl }

-- the tokens of symbols
record TokensOf (whole text : List ℕ) (xs : List Symbol) : Type 0 where
  tokens : List Token
  are : TokensAt (length whole) text tokens
  symbols : xs ≡ map (symbol_of whole) tokens

tokens_of : (whole pre text : List ℕ) (xs : List Symbol) → whole ≡ pre ++ text → SymbolsAt text xs → TokensOf whole text xs
tokens_of whole pre text [] w h = record { tokens = []; are = h; symbols = refl }
tokens_of whole pre text (x ∷ xs) w h =
    let gap = gap_suffix text h.0 h.3 in
    let a = a_token x h.1 h.2 h.5 in
    let before : whole ≡ (pre ++ gap.0) ++ h.0 = w ∙ ap (λ v. pre ++ v) gap.1 ∙ sym (append_assoc pre gap.0 h.0) in
    let behind : whole ≡ ((pre ++ gap.0) ++ h.1) ++ h.2 = before ∙ ap (λ v. (pre ++ gap.0) ++ v) h.4 ∙ sym (append_assoc (pre ++ gap.0) h.1 h.2) in
    let more = tokens_of whole ((pre ++ gap.0) ++ h.1) h.2 xs behind h.6 in
    let start : length (pre ++ gap.0) + length h.0 ≡ length whole = sym (length-append (pre ++ gap.0) h.0) ∙ sym (ap length before) in
    let end : length ((pre ++ gap.0) ++ h.1) + length h.2 ≡ length whole = sym (length-append ((pre ++ gap.0) ++ h.1) h.2) ∙ sym (ap length behind) in
    let t : Token = record { kind = a.kind; span = record { start = length (pre ++ gap.0); end = length ((pre ++ gap.0) ++ h.1) } } in
    let s = sliced whole (pre ++ gap.0) h.0 h.1 h.2 t.span.start t.span.end before h.4 start end in
    let here : x ≡ symbol_of whole t = sym a.symbol ∙ ap (symbol_at a.kind) (sym s) in
    record {
      tokens = t ∷ more.tokens;
      are = (h.0, h.1, h.2, h.3, h.4, a.is, start, end, more.are);
      symbols = ap (λ v. v ∷ xs) here ∙ ap (λ v. symbol_of whole t ∷ v) more.symbols;
    }

pub symbols_from : (text : List ℕ) (xs : List Symbol) → SymbolsAt text xs → Symbols text xs
symbols_from text xs h = let t = tokens_of text [] text xs refl h in (t.tokens, t.are, t.symbols)

symbols_at : (whole pre text : List ℕ) (ts : List Token) → whole ≡ pre ++ text → TokensAt (length whole) text ts → SymbolsAt text (map (symbol_of whole) ts)
symbols_at whole pre text [] w h = h
symbols_at whole pre text (t ∷ ts) w h =
    let gap = gap_suffix text h.0 h.3 in
    let before : whole ≡ (pre ++ gap.0) ++ h.0 = w ∙ ap (λ v. pre ++ v) gap.1 ∙ sym (append_assoc pre gap.0 h.0) in
    let behind : whole ≡ ((pre ++ gap.0) ++ h.1) ++ h.2 = before ∙ ap (λ v. (pre ++ gap.0) ++ v) h.4 ∙ sym (append_assoc (pre ++ gap.0) h.1 h.2) in
    let s = sliced whole (pre ++ gap.0) h.0 h.1 h.2 t.span.start t.span.end before h.4 h.6 h.7 in
    let here = subst (λ (v : List ℕ). IsTokenOf (symbol_at t.kind v) h.1 h.2) (sym s) (is_token_of t.kind h.1 h.2 h.5) in
    (h.0, h.1, h.2, h.3, h.4, here, symbols_at whole ((pre ++ gap.0) ++ h.1) h.2 ts behind h.8)

pub symbols_to : (text : List ℕ) (xs : List Symbol) → Symbols text xs → SymbolsAt text xs
symbols_to text xs h = subst (SymbolsAt text) (sym h.2) (symbols_at text [] text h.0 refl h.1)

-- ---- what was read can be written

valid_symbol : (x : Symbol) (front rest : List ℕ) → IsTokenOf x front rest → IsSymbol x
valid_symbol (Word w) front rest t = subst IsWord t.0 t.1.0
valid_symbol (Int n) front rest t = t.2
valid_symbol (Text s) front rest t = (t.1, t.2)
valid_symbol (Sign s) front rest t = tt

valid_symbols : (text : List ℕ) (xs : List Symbol) → SymbolsAt text xs → AllByRecursion IsSymbol xs
valid_symbols text [] h = tt
valid_symbols text (x ∷ xs) h = (valid_symbol x h.1 h.2 h.5, valid_symbols h.2 xs h.6)

pub one_list_of_symbols : (text : List ℕ) (symbols others : List Symbol) → Symbols text symbols → Symbols text others → (symbols ≡ others) × All IsSymbol symbols
one_list_of_symbols text symbols others h k =
    let same = one_list_of_tokens text h.0 k.0 h.1 k.1 in
    (h.2 ∙ ap (map (symbol_of text)) same ∙ sym k.2, All-from_recursion IsSymbol symbols (valid_symbols text symbols (symbols_to text symbols h)))

-- ---- what stands behind a symbol does not go on with it

closing : (p : ℕ → Bool) (y : Symbol) (s : List ℕ) → closes y ≡ true → p 41 ≡ false → p 44 ≡ false → p 46 ≡ false → begins p (spelled y ++ s) ≡ false
closing p (Sign sign.Close) s c close comma dot = close
closing p (Sign sign.Comma) s c close comma dot = comma
closing p (Sign sign.Dot) s c close comma dot = dot
closing p (Word w) s c close comma dot = absurd (false≢true c)
closing p (Int n) s c close comma dot = absurd (false≢true c)
closing p (Text t) s c close comma dot = absurd (false≢true c)
closing p (Sign sign.Open) s c close comma dot = absurd (false≢true c)
closing p (Sign sign.Arrow) s c close comma dot = absurd (false≢true c)
closing p (Sign sign.Equal) s c close comma dot = absurd (false≢true c)
closing p (Sign sign.NotEqual) s c close comma dot = absurd (false≢true c)
closing p (Sign sign.Less) s c close comma dot = absurd (false≢true c)
closing p (Sign sign.LessEqual) s c close comma dot = absurd (false≢true c)
closing p (Sign sign.Greater) s c close comma dot = absurd (false≢true c)
closing p (Sign sign.GreaterEqual) s c close comma dot = absurd (false≢true c)

behind : (p : ℕ → Bool) (x : Symbol) (xs : List Symbol) → opens x ≡ false → p 32 ≡ false → p 41 ≡ false → p 44 ≡ false → p 46 ≡ false → begins p (after x xs) ≡ false
behind p x [] no_open space close comma dot = refl
behind p x (y ∷ ys) no_open space close comma dot = elim (closes y) as (λ v. closes y ≡ v → begins p (after x (y ∷ ys)) ≡ false) [
  | true ↦ λ e. rw (no_open, e) (closing p y (after y ys) e close comma dot)
  | false ↦ λ e. rw (no_open, e) space
] refl

-- ---- numbers

own : IsNumeralModel (λ ds. list_all is_ascii_digit ds ≡ true) (digits_value 10)
own = numerals_by_value (λ ds. list_all is_ascii_digit ds ≡ true) (search rules)

digits_numeral : (ds : List ℕ) → 0 < length ds → list_all is_ascii_digit ds ≡ true → IsNumeral ds
digits_numeral [] some all = absurd (omega arith)
digits_numeral (x ∷ bs) some all =
    let d : is_ascii_digit x ≡ true = grind (arith, all) in
    let rest : list_all is_ascii_digit bs ≡ true = grind (arith, all, d) in
    (rw d refl, rest)

plain_value : (ds : List ℕ) → IsNumeral ds → list_all is_ascii_digit ds ≡ true → signed_digits_value 10 ds ≡ pos (digits_value 10 ds)
plain_value [] n all = absurd n
plain_value (x ∷ bs) n all =
    let d : is_ascii_digit x ≡ true = grind (arith, all) in
    let minus : (x == 45) ≡ false = grind (arith, nat_tests, d) in
    let plus : (x == 43) ≡ false = grind (arith, nat_tests, d) in
    rw (minus, plus) refl

minus_numeral : (ds : List ℕ) → 0 < length ds → list_all is_ascii_digit ds ≡ true → IsNumeral (45 ∷ ds)
minus_numeral [] some all = absurd (omega arith)
minus_numeral (x ∷ bs) some all =
    let d : is_ascii_digit x ≡ true = grind (arith, all) in
    (d, all)

number_spelled : (n : ℤ) → FitsSigned w64 n → IsNumeral (signed_decimal n) × (n ≡ signed_digits_value 10 (signed_decimal n))
number_spelled (pos n) fits =
    let small : n < 2 ^ 64 = omega (arith, fits) in
    let all : list_all is_ascii_digit (decimal n) ≡ true = digits_decimal own n small in
    let numeral = digits_numeral (decimal n) (decimal_nonempty n small) all in
    (numeral, sym (plain_value (decimal n) numeral all ∙ ap pos (digits_value-decimal own n small)))
number_spelled (negsuc n) fits =
    let small : suc n < 2 ^ 64 = omega (arith, fits) in
    let all : list_all is_ascii_digit (decimal (suc n)) ≡ true = digits_decimal own (suc n) small in
    (minus_numeral (decimal (suc n)) (decimal_nonempty (suc n) small) all, sym (ap (λ (m : ℕ). neg_ℤ (pos m)) (digits_value-decimal own (suc n) small)))

-- ---- all of them

pub spelled_symbol : (x : Symbol) (xs : List Symbol) → IsSymbol x → IsTokenOf x (spelled x) (after x xs)
spelled_symbol (Word w) xs v = (refl, (v, behind is_letter_or_digit (Word w) xs refl refl refl refl refl))
spelled_symbol (Int n) xs v = let h = number_spelled n v in (h.0, h.1, v, behind is_letter_or_digit (Int n) xs refl refl refl refl refl)
spelled_symbol (Text t) xs v = (refl, v.0, v.1, behind (λ b. b == 39) (Text t) xs refl refl refl refl refl)
spelled_symbol (Sign sign.Open) xs v = (refl, begins_none (after (Sign sign.Open) xs))
spelled_symbol (Sign sign.Close) xs v = (refl, begins_none (after (Sign sign.Close) xs))
spelled_symbol (Sign sign.Comma) xs v = (refl, begins_none (after (Sign sign.Comma) xs))
spelled_symbol (Sign sign.Dot) xs v = (refl, begins_none (after (Sign sign.Dot) xs))
spelled_symbol (Sign sign.Arrow) xs v = (refl, begins_none (after (Sign sign.Arrow) xs))
spelled_symbol (Sign sign.Equal) xs v = (refl, begins_none (after (Sign sign.Equal) xs))
spelled_symbol (Sign sign.NotEqual) xs v = (refl, begins_none (after (Sign sign.NotEqual) xs))
spelled_symbol (Sign sign.LessEqual) xs v = (refl, begins_none (after (Sign sign.LessEqual) xs))
spelled_symbol (Sign sign.GreaterEqual) xs v = (refl, begins_none (after (Sign sign.GreaterEqual) xs))
spelled_symbol (Sign sign.Less) xs v = (refl, behind (lengthens sign.Less) (Sign sign.Less) xs refl refl refl refl refl)
spelled_symbol (Sign sign.Greater) xs v = (refl, behind (lengthens sign.Greater) (Sign sign.Greater) xs refl refl refl refl refl)

-- one space, or none, stands between two symbols
between : (x y : Symbol) (ys : List Symbol) → Gap (after x (y ∷ ys)) (spelled y ++ after y ys)
between x y ys = elim (opens x || closes y) as (λ v. (opens x || closes y) ≡ v → Gap (after x (y ∷ ys)) (spelled y ++ after y ys)) [
  | true ↦ λ e. rw e (b.none _ _ refl)
  | false ↦ λ e. rw e (b.space 32 _ (spelled y ++ after y ys) _ refl refl (b.none _ _ refl))
] refl

behind_symbols : (x : Symbol) (xs : List Symbol) → AllByRecursion IsSymbol xs → SymbolsAt (after x xs) xs
behind_symbols x [] vs = b.none [] [] refl
behind_symbols x (y ∷ ys) vs = (spelled y ++ after y ys, spelled y, after y ys, between x y ys, refl, spelled_symbol y ys vs.0, behind_symbols y ys vs.1)

pub spaced_at : (text : List ℕ) (xs : List Symbol) → Gap text (spaced xs) → AllByRecursion IsSymbol xs → SymbolsAt text xs
spaced_at text [] g vs = g
spaced_at text (x ∷ xs) g vs = (spelled x ++ after x xs, spelled x, after x xs, g, refl, spelled_symbol x xs vs.0, behind_symbols x xs vs.1)

pub spaced_is_read : (xs : List Symbol) → All IsSymbol xs → Symbols (spaced xs) xs
spaced_is_read xs vs = symbols_from (spaced xs) xs (spaced_at (spaced xs) xs (b.none (spaced xs) (spaced xs) refl) (recursion_from_All IsSymbol xs vs))
