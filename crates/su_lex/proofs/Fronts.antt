-- The first bytes of a token tell its class.
use Rattle.std.proofs.Common.{◌≡◌, ◌<◌, ◌≤◌, ◌+◌, ℕ, Some, None, Bool, true, false, List, [], ◌∷◌, ◌++◌, ◌&&◌, ◌||◌, ◌==◌, length, refl, ap, sym, ◌∙◌, cond, arith}
use Rattle.std.specs.Char.{is_ascii_digit}
use Rattle.std.specs.List.{prefix_len, list_all}
use Rattle.std.proofs.lemmas.List.Sums.{AllPass-from_list_all, list_all-from_AllPass}
use Rattle.std.proofs.lemmas.Bool.Decides.{nat_tests}
use Rattle.su_lex.proofs.Runs.{run_split, run_is}
use Rattle.su_lex.specs.Blanks.{begins}
use Rattle.su_lex.specs.TokenForms.{IsToken, lengthens, sign_bytes}
use Rattle.su_lex.specs.inside.Firsts.{IsFirstToken, HasNoFirstToken}
use Rattle.su_lex.specs.inside.Classes.{class_at, sign_at}
use Rattle.su_base.specs.Name.{is_letter, is_letter_or_digit, IsWord}
use Rattle.su_lex.specs.declared.kinds.TokenKind.{TokenKind}
use Rattle.su_lex.specs.declared.kinds.TokenKind.TheVariants.{Word, Int, Text, Sign as ASign}
use Rattle.su_lex.specs.declared.firsts.Class.{Class}
use Rattle.su_lex.specs.declared.firsts.Class.TheVariants.{Word as OfWord, Number as OfNumber, Text as OfText, Sign as OfSign}
use Rattle.su_lex.specs.declared.signs.Sign.{Sign}
use Rattle.su_lex.specs.declared.signs.Sign.TheVariants.{Open, Close, Comma, Dot, Arrow, Equal, NotEqual, Less, LessEqual, Greater, GreaterEqual}

-- the class of a token's kind
abbrev pub class_of : TokenKind → Class
class_of Word = OfWord
class_of (Int n) = OfNumber
class_of (Text t) = OfText
class_of (ASign s) = OfSign

sign_class : (s : Sign) (rest : List ℕ) → class_at (sign_bytes s ++ rest) ≡ class_of (ASign s)
sign_class Open rest = refl
sign_class Close rest = refl
sign_class Comma rest = refl
sign_class Dot rest = refl
sign_class Arrow rest = refl
sign_class Equal rest = refl
sign_class NotEqual rest = refl
sign_class Less rest = refl
sign_class LessEqual rest = refl
sign_class Greater rest = refl
sign_class GreaterEqual rest = refl

pub sign_at-is : (s : Sign) (rest : List ℕ) → begins (lengthens s) rest ≡ false → sign_at (sign_bytes s ++ rest) ≡ Some s
sign_at-is Open rest ends = refl
sign_at-is Close rest ends = refl
sign_at-is Comma rest ends = refl
sign_at-is Dot rest ends = refl
sign_at-is Arrow rest ends = refl
sign_at-is Equal rest ends = refl
sign_at-is NotEqual rest ends = refl
sign_at-is Less rest ends = rw ends refl
sign_at-is LessEqual rest ends = refl
sign_at-is Greater rest ends = rw ends refl
sign_at-is GreaterEqual rest ends = refl

-- a digit or a minus is no letter
no_letter : (b : ℕ) (m : Bool) → (is_ascii_digit b || (b == 45 && m)) ≡ true → is_letter b ≡ false
no_letter b m h = grind (arith, nat_tests, h)

pub class_at-is : (kind : TokenKind) (front rest : List ℕ) → IsToken kind front rest → class_at (front ++ rest) ≡ class_of kind
class_at-is Word [] rest t = absurd t.0
class_at-is Word (b ∷ bs) rest t = grind (arith, t.0.0)
class_at-is (Int n) [] rest t = absurd t.0
class_at-is (Int n) (b ∷ []) rest t =
    let digit : is_ascii_digit b ≡ true = grind (arith, t.0.0) in
    rw (no_letter b _ t.0.0, digit) refl
class_at-is (Int n) (b ∷ c ∷ bs) rest t = rw (no_letter b _ t.0.0, t.0.0) refl
class_at-is (Text s) front rest t = rw t.0 refl
class_at-is (ASign s) front rest t = rw t.0 (sign_class s rest)

-- ---- words

letter_at : (b : ℕ) (bs : List ℕ) → class_at (b ∷ bs) ≡ OfWord → is_letter b ≡ true
letter_at b bs c = elim (is_letter b) as (λ v. is_letter b ≡ v → is_letter b ≡ true) [
  | true ↦ λ e. e
  | false ↦ λ e. absurd (other (is_ascii_digit b || (b == 45 && begins is_ascii_digit bs)) (b == 39) (rw e at c))
] refl
  where
    other : (m n : Bool) → cond m OfNumber (cond n OfText OfSign) ≡ OfWord → ⊥
    other true n e = cc
    other false true e = cc
    other false false e = cc

pub word_found : (text : List ℕ) → class_at text ≡ OfWord → prefix_len is_letter_or_digit text ≤ 64 → IsFirstToken text Word (prefix_len is_letter_or_digit text)
word_found [] c short = absurd (cc)
word_found (b ∷ bs) c short =
    let letter = letter_at b bs c in
    let s = run_split is_letter_or_digit bs in
    let is_word : is_letter_or_digit b ≡ true = grind (arith, letter) in
    let count : prefix_len is_letter_or_digit (b ∷ bs) ≡ length s.front + 1 = grind (arith, is_word, s.count) in
    (b ∷ s.front, s.rest, ap (λ t. b ∷ t) s.whole, omega arith, ((letter, AllPass-from_list_all is_letter_or_digit s.front s.passes, omega arith), s.ends))

-- a word is made of letters, digits and `_`
pub word_all : (front : List ℕ) → IsWord front → list_all is_letter_or_digit front ≡ true
word_all [] w = absurd w
word_all (b ∷ bs) w =
    let first : is_letter_or_digit b ≡ true = grind (arith, w.0) in
    let others : list_all is_letter_or_digit bs ≡ true = list_all-from_AllPass is_letter_or_digit bs w.1 in
    grind (arith, first, others)

word_short : (kind : TokenKind) (front rest : List ℕ) → class_of kind ≡ OfWord → IsToken kind front rest → prefix_len is_letter_or_digit (front ++ rest) ≤ 64
word_short Word [] rest c t = absurd t.0
word_short Word (b ∷ bs) rest c t =
    let is_word : is_letter_or_digit b ≡ true = grind (arith, t.0.0) in
    let all : list_all is_letter_or_digit (b ∷ bs) ≡ true = word_all (b ∷ bs) t.0 in
    omega (arith, run_is is_letter_or_digit (b ∷ bs) rest all t.1)
word_short (Int n) front rest c t = absurd (cc)
word_short (Text s) front rest c t = absurd (cc)
word_short (ASign s) front rest c t = absurd (cc)

pub word_none : (text : List ℕ) → class_at text ≡ OfWord → 64 < prefix_len is_letter_or_digit text → HasNoFirstToken text
word_none text c long kind front rest e t =
    let short = word_short kind front rest (sym (class_at-is kind front rest t) ∙ ap class_at (sym e) ∙ c) t in
    absurd (omega (arith, rw (← e) at short))

-- ---- signs

pub begins_none : (bs : List ℕ) → begins (λ b. false) bs ≡ false
begins_none [] = refl
begins_none (b ∷ bs) = refl

sign_split : (b : ℕ) (bs : List ℕ) (s : Sign) → sign_at (b ∷ bs) ≡ Some s → (rest : List ℕ) × (b ∷ bs ≡ sign_bytes s ++ rest) × (begins (lengthens s) rest ≡ false)
sign_split b bs Open e = let h : b ≡ 40 = grind (arith, nat_tests, e) in (bs, ap (λ x. x ∷ bs) h, begins_none bs)
sign_split b bs Close e = let h : b ≡ 41 = grind (arith, nat_tests, e) in (bs, ap (λ x. x ∷ bs) h, begins_none bs)
sign_split b bs Comma e = let h : b ≡ 44 = grind (arith, nat_tests, e) in (bs, ap (λ x. x ∷ bs) h, begins_none bs)
sign_split b bs Dot e = let h : b ≡ 46 = grind (arith, nat_tests, e) in (bs, ap (λ x. x ∷ bs) h, begins_none bs)
sign_split b bs Equal e = let h : b ≡ 61 = grind (arith, nat_tests, e) in (bs, ap (λ x. x ∷ bs) h, begins_none bs)
sign_split b bs Less e = let h : (b ≡ 60) × (begins (λ c. c == 61) bs ≡ false) = grind (arith, nat_tests, e) in (bs, ap (λ x. x ∷ bs) h.0, h.1)
sign_split b bs Greater e = let h : (b ≡ 62) × (begins (λ c. c == 61) bs ≡ false) = grind (arith, nat_tests, e) in (bs, ap (λ x. x ∷ bs) h.0, h.1)
sign_split b [] Arrow e = absurd (grind (arith, nat_tests, e))
sign_split b (c ∷ cs) Arrow e = let h : (b ≡ 45) × (c ≡ 62) = grind (arith, nat_tests, e) in (cs, cc, begins_none cs)
sign_split b [] NotEqual e = absurd (grind (arith, nat_tests, e))
sign_split b (c ∷ cs) NotEqual e = let h : (b ≡ 33) × (c ≡ 61) = grind (arith, nat_tests, e) in (cs, cc, begins_none cs)
sign_split b [] LessEqual e = absurd (grind (arith, nat_tests, e))
sign_split b (c ∷ cs) LessEqual e = let h : (b ≡ 60) × (c ≡ 61) = grind (arith, nat_tests, e) in (cs, cc, begins_none cs)
sign_split b [] GreaterEqual e = absurd (grind (arith, nat_tests, e))
sign_split b (c ∷ cs) GreaterEqual e = let h : (b ≡ 62) × (c ≡ 61) = grind (arith, nat_tests, e) in (cs, cc, begins_none cs)

pub sign_found : (text : List ℕ) (s : Sign) → sign_at text ≡ Some s → IsFirstToken text (ASign s) (length (sign_bytes s))
sign_found [] s e = absurd (cc)
sign_found (b ∷ bs) s e = let h = sign_split b bs s e in (sign_bytes s, h.0, h.1, refl, (refl, h.2))

sign_there : (kind : TokenKind) (front rest : List ℕ) → class_of kind ≡ OfSign → IsToken kind front rest → sign_at (front ++ rest) ≡ None → ⊥
sign_there Word front rest c t none = absurd (cc)
sign_there (Int n) front rest c t none = absurd (cc)
sign_there (Text s) front rest c t none = absurd (cc)
sign_there (ASign s) front rest c t none =
    let there = sign_at-is s rest t.1 in
    let same = ap (λ x. sign_at (x ++ rest)) t.0 in
    absurd (cc)

pub sign_none : (text : List ℕ) → class_at text ≡ OfSign → sign_at text ≡ None → HasNoFirstToken text
sign_none text c none kind front rest e t =
    sign_there kind front rest (sym (class_at-is kind front rest t) ∙ ap class_at (sym e) ∙ c) t (ap sign_at (sym e) ∙ none)
