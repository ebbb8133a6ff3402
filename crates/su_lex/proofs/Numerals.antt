-- Numbers at the front of a text.
use Rattle.std.proofs.Common.{◌≡◌, ◌<◌, ◌+◌, ℕ, ℤ, Bool, true, false, List, [], ◌∷◌, ◌++◌, ◌&&◌, ◌||◌, ◌==◌, take, drop, refl, ap, sym, ◌∙◌, arith, subst, add-one}
use Rattle.std.specs.Char.{is_ascii_digit, digit_value}
use Rattle.std.specs.List.{prefix_len, list_all}
use Rattle.std.specs.Int.{w64}
use Rattle.std.specs.Int.RustNames.{FitsSigned}
use Rattle.std.specs.Str.Parse.{signed_digits_value, AllDigits, without_leading_sign, IsNumeral as IsStdNumeral}
use Rattle.std.proofs.lemmas.Bool.{false≢true}
use Rattle.std.proofs.lemmas.Bool.Decides.{nat_tests}
use Rattle.std.proofs.lemmas.List.{take_at}
use Rattle.su_lex.proofs.Runs.{Split, run_split, run_take}
use Rattle.su_lex.specs.Blanks.{begins}
use Rattle.su_lex.specs.TokenForms.{IsToken, IsNumeral}
use Rattle.su_lex.specs.inside.Firsts.{IsFirstToken, HasNoFirstToken}
use Rattle.su_lex.specs.inside.Classes.{class_at}
use Rattle.su_base.specs.Name.{is_letter_or_digit, IsWord}
use Rattle.su_lex.specs.declared.kinds.TokenKind.{TokenKind}
use Rattle.su_lex.specs.declared.kinds.TokenKind.TheVariants.{Word, Int, Text, Sign as ASign}
use Rattle.su_lex.specs.declared.firsts.Class.TheVariants.{Number as OfNumber}
use Rattle.std.specs.Str.{IsAscii, IsUtf8}
use Rattle.std.proofs.lemmas.Str.Ascii.{IsAscii-cons, IsAscii-nil}
use Rattle.su_lex.proofs.Fronts.{class_of, class_at-is, word_all}
use Rattle.std.proofs.lemmas.Str.{IsUtf8-from_ascii}

digits_are_word : (xs : List ℕ) → list_all is_ascii_digit xs ≡ true → list_all is_letter_or_digit xs ≡ true
digits_are_word [] h = refl
digits_are_word (x ∷ xs) h =
    let d : is_ascii_digit x ≡ true = grind (arith, h) in
    let w : is_letter_or_digit x ≡ true = grind (arith, d) in
    let rest : list_all is_ascii_digit xs ≡ true = grind (arith, h, d) in
    grind (arith, w, digits_are_word xs rest)

all_digits : (xs : List ℕ) → list_all is_ascii_digit xs ≡ true → AllDigits 10 xs
all_digits [] h = tt
all_digits (x ∷ xs) h =
    let d : is_ascii_digit x ≡ true = grind (arith, h) in
    let rest : list_all is_ascii_digit xs ≡ true = grind (arith, h, d) in
    let less : digit_value x < 10 = grind (arith, nat_tests, d) in
    (less, all_digits xs rest)

ascii_digits : (xs : List ℕ) → list_all is_ascii_digit xs ≡ true → IsAscii xs
ascii_digits [] h = IsAscii-nil
ascii_digits (x ∷ xs) h =
    let d : is_ascii_digit x ≡ true = grind (arith, h) in
    let rest : list_all is_ascii_digit xs ≡ true = grind (arith, h, d) in
    let less : x < 128 = grind (arith, nat_tests, d) in
    IsAscii-cons x xs less (ascii_digits xs rest)

pub numeral_ascii : (bs : List ℕ) → IsNumeral bs → IsAscii bs
numeral_ascii [] n = absurd n
numeral_ascii (b ∷ bs) n =
    let less : b < 128 = grind (arith, nat_tests, n.0) in
    IsAscii-cons b bs less (ascii_digits bs n.1)

pub numeral_std : (bs : List ℕ) → IsNumeral bs → IsStdNumeral 10 (without_leading_sign bs)
numeral_std [] n = absurd n
numeral_std (b ∷ []) n =
    let d : is_ascii_digit b ≡ true = grind (arith, n.0) in
    let minus : (b == 45) ≡ false = grind (arith, nat_tests, d) in
    let plus : (b == 43) ≡ false = grind (arith, nat_tests, d) in
    let less : digit_value b < 10 = grind (arith, nat_tests, d) in
    rw (minus, plus) (omega arith, (less, tt))
numeral_std (b ∷ c ∷ bs) n = elim (b == 45) as (λ v. (b == 45) ≡ v → IsStdNumeral 10 (without_leading_sign (b ∷ c ∷ bs))) [
  | true ↦ λ minus. rw minus (omega arith, all_digits (c ∷ bs) n.1)
  | false ↦ λ minus.
      let d : is_ascii_digit b ≡ true = grind (arith, n.0, minus) in
      let plus : (b == 43) ≡ false = grind (arith, nat_tests, d) in
      let less : digit_value b < 10 = grind (arith, nat_tests, d) in
      rw (minus, plus) (omega arith, (less, all_digits (c ∷ bs) n.1))
] refl

-- a token at a number's place is as long as the run of word bytes says
pub record AtNumber (text front : List ℕ) : Type 0 where
  pub front_is : take (prefix_len is_letter_or_digit (drop 1 text) + 1) text ≡ front
  pub digits : list_all is_ascii_digit (take (prefix_len is_letter_or_digit (drop 1 text)) (drop 1 text)) ≡ true
  pub fits : FitsSigned w64 (signed_digits_value 10 front)

pub number_there : (kind : TokenKind) (front rest : List ℕ) → class_of kind ≡ OfNumber → IsToken kind front rest → AtNumber (front ++ rest) front
number_there Word front rest c t = absurd (cc)
number_there (Text s) front rest c t = absurd (cc)
number_there (ASign s) front rest c t = absurd (cc)
number_there (Int n) [] rest c t = absurd t.0
number_there (Int n) (b ∷ bs) rest c t =
    let run = run_take is_letter_or_digit bs rest (digits_are_word bs t.0.1) t.3 in record {
      front_is = rw add-one (ap (λ x. b ∷ x) run);
      digits = ap (list_all is_ascii_digit) run ∙ t.0.1;
      fits = subst (FitsSigned w64) t.1 t.2;
    }

at_number : (text : List ℕ) → class_at text ≡ OfNumber → (kind : TokenKind) (front rest : List ℕ) → text ≡ front ++ rest → IsToken kind front rest → AtNumber text front
at_number text c kind front rest e t =
    subst (λ (x : List ℕ). AtNumber x front) (sym e) (number_there kind front rest (sym (class_at-is kind front rest t) ∙ ap class_at (sym e) ∙ c) t)

pub number_no_digits : (text : List ℕ) → class_at text ≡ OfNumber → list_all is_ascii_digit (take (prefix_len is_letter_or_digit (drop 1 text)) (drop 1 text)) ≡ false → HasNoFirstToken text
number_no_digits text c none kind front rest e t = false≢true (sym none ∙ (at_number text c kind front rest e t).digits)

pub number_no_value : (text : List ℕ) → class_at text ≡ OfNumber → ¬ (FitsSigned w64 (signed_digits_value 10 (take (prefix_len is_letter_or_digit (drop 1 text) + 1) text))) → HasNoFirstToken text
number_no_value text c none kind front rest e t =
    let a = at_number text c kind front rest e t in
    none (subst (λ (x : List ℕ). FitsSigned w64 (signed_digits_value 10 x)) (sym a.front_is) a.fits)

number_begins : (b : ℕ) (bs : List ℕ) → class_at (b ∷ bs) ≡ OfNumber → (is_ascii_digit b || (b == 45 && begins is_ascii_digit bs)) ≡ true
number_begins b bs c = grind (arith, c)

begins_front : (p q : ℕ → Bool) (xs : List ℕ) (s : Split p xs) → ((x : ℕ) → q x ≡ true → p x ≡ true) → begins q xs ≡ true → begins q s.front ≡ true
begins_front p q xs s more h = first s.front s.rest (rw s.whole at h) s.ends
  where
    first : (front rest : List ℕ) → begins q (front ++ rest) ≡ true → begins p rest ≡ false → begins q front ≡ true
    first [] [] h e = h
    first [] (x ∷ rest) h e = absurd (false≢true (sym e ∙ more x h))
    first (x ∷ front) rest h e = h

digit_is_word : (x : ℕ) → is_ascii_digit x ≡ true → is_letter_or_digit x ≡ true
digit_is_word x h = grind (arith, h)

numeral_front : (b : ℕ) (bs front : List ℕ) → (begins is_ascii_digit bs ≡ true → begins is_ascii_digit front ≡ true)
    → (is_ascii_digit b || (b == 45 && begins is_ascii_digit bs)) ≡ true → (is_ascii_digit b || (b == 45 && begins is_ascii_digit front)) ≡ true
numeral_front b bs front more h = elim (begins is_ascii_digit bs) as (λ v. begins is_ascii_digit bs ≡ v → (is_ascii_digit b || (b == 45 && begins is_ascii_digit front)) ≡ true) [
  | true ↦ λ e. let f = more e in grind (arith, h, e, f)
  | false ↦ λ e. grind (arith, h, e)
] refl

pub number_numeral : (text : List ℕ) → class_at text ≡ OfNumber → list_all is_ascii_digit (take (prefix_len is_letter_or_digit (drop 1 text)) (drop 1 text)) ≡ true
    → IsNumeral (take (prefix_len is_letter_or_digit (drop 1 text) + 1) text)
number_numeral [] c all = absurd (cc)
number_numeral (b ∷ bs) c all =
    let s = run_split is_letter_or_digit bs in
    let same : take (prefix_len is_letter_or_digit bs) bs ≡ s.front = ap (take (prefix_len is_letter_or_digit bs)) s.whole ∙ take_at s.front s.rest _ (sym s.count) in
    rw add-one (numeral_front b bs (take (prefix_len is_letter_or_digit bs) bs) (λ h. ap (begins is_ascii_digit) same ∙ begins_front is_letter_or_digit is_ascii_digit bs s digit_is_word h) (number_begins b bs c), all)

pub number_found : (text : List ℕ) (n : ℤ) → class_at text ≡ OfNumber → IsNumeral (take (prefix_len is_letter_or_digit (drop 1 text) + 1) text)
    → n ≡ signed_digits_value 10 (take (prefix_len is_letter_or_digit (drop 1 text) + 1) text) → FitsSigned w64 n → IsFirstToken text (Int n) (prefix_len is_letter_or_digit (drop 1 text) + 1)
number_found [] n c numeral e fits = absurd (cc)
number_found (b ∷ bs) n c numeral e fits =
    let s = run_split is_letter_or_digit bs in
    let same : take (prefix_len is_letter_or_digit bs + 1) (b ∷ bs) ≡ b ∷ s.front = rw add-one (ap (λ x. b ∷ x) (ap (take (prefix_len is_letter_or_digit bs)) s.whole ∙ take_at s.front s.rest _ (sym s.count))) in (
      b ∷ s.front,
      s.rest,
      ap (λ t. b ∷ t) s.whole,
      omega (arith, s.count),
      (subst IsNumeral same numeral, e ∙ ap (signed_digits_value 10) same, fits, s.ends),
    )

-- ---- words are UTF-8

word_bytes_ascii : (bs : List ℕ) → list_all is_letter_or_digit bs ≡ true → IsAscii bs
word_bytes_ascii [] h = IsAscii-nil
word_bytes_ascii (x ∷ xs) h =
    let w : is_letter_or_digit x ≡ true = grind (arith, h) in
    let rest : list_all is_letter_or_digit xs ≡ true = grind (arith, h, w) in
    let less : x < 128 = grind (arith, nat_tests, w) in
    IsAscii-cons x xs less (word_bytes_ascii xs rest)

pub word_utf8 : (bs : List ℕ) → IsWord bs → IsUtf8 bs
word_utf8 bs w = IsUtf8-from_ascii bs (word_bytes_ascii bs (word_all bs w))
