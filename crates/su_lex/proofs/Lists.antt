-- The list of tokens, one at a time.
use Rattle.std.proofs.Common.{get_or, ◌≡◌, ◌<◌, ◌≤◌, ◌+◌, ℕ, Some, true, false, List, [], ◌∷◌, ◌++◌, ◌==◌, length, take, drop, refl, ap, sym, ◌∙◌, arith, subst, All, append_assoc, ◌-◌}
use Rattle.std.specs.Char.{is_ascii_digit}
use Rattle.std.specs.List.{prefix_len}
use Rattle.std.specs.Str.Parse.{signed_digits_value}
use Rattle.std.proofs.lemmas.List.Elements.{All-cons, All-nil}
use Rattle.su_lex.specs.Tokens.{InText, slice_of, TokensAt, Tokens}
use Rattle.su_lex.specs.inside.Firsts.{IsFirstToken, HasNoFirstToken}
use Rattle.std.proofs.lemmas.Bool.Decides.{nat_tests}
use Rattle.std.proofs.lemmas.List.{take_at, drop_at, length-append, append_cancel_left, append-nil}
use Rattle.su_lex.proofs.Runs.{run_take}
use Rattle.su_lex.specs.Blanks.{begins, Gap}
use Rattle.su_lex.specs.TokenForms.{IsToken, quoted, sign_bytes}
use Rattle.su_lex.proofs.Gaps.{IsSolid, gap_same, gap_solid, gap_trans, gap_suffix}
use Rattle.su_lex.specs.Blanks as b
use Rattle.su_base.specs.Name.{IsWord, is_letter_or_digit}
use Rattle.su_lex.specs.inside.Classes.{class_at, sign_at}
use Rattle.su_lex.specs.declared.kinds.TokenKind.{TokenKind}
use Rattle.su_lex.specs.declared.kinds.TokenKind.TheVariants.{Word, Int, Text, Sign as ASign}
use Rattle.su_lex.specs.declared.signs.Sign.{Sign}
use Rattle.su_lex.specs.declared.signs.Sign.TheVariants.{Open, Close, Comma, Dot, Arrow, Equal, NotEqual, Less, LessEqual, Greater, GreaterEqual}
use Rattle.su_lex.proofs.Fronts.{class_of, class_at-is, sign_at-is, word_all}
use Rattle.su_lex.proofs.Numerals.{number_there}
use Rattle.su_lex.proofs.Quotes.{text_same}
use Rattle.su_lex.specs.declared.kinds.Token.{Token}

same_kind : (k k' : TokenKind) (f r f' r' : List ℕ) → class_of k ≡ class_of k' → IsToken k f r → IsToken k' f' r' → f ++ r ≡ f' ++ r' → (k ≡ k') × (f ≡ f')
same_kind Word Word f r f' r' c t t' e =
    (refl, sym (run_take is_letter_or_digit f r (word_all f t.0) t.1) ∙ ap (λ x. take (prefix_len is_letter_or_digit x) x) e ∙ run_take is_letter_or_digit f' r' (word_all f' t'.0) t'.1)
same_kind (Int m) (Int n) f r f' r' c t t' e =
    let same : f ≡ f' = sym (number_there (Int m) f r refl t).front_is ∙ ap (λ x. take (prefix_len is_letter_or_digit (drop 1 x) + 1) x) e ∙ (number_there (Int n) f' r' refl t').front_is in
    (ap Int (t.1 ∙ ap (signed_digits_value 10) same ∙ sym t'.1), same)
same_kind (Text s) (Text s') f r f' r' c t t' e =
    let same = text_same s s' r r' t.3 t'.3 (ap (λ x. x ++ r) (sym t.0) ∙ e ∙ ap (λ x. x ++ r') t'.0) in
    (ap Text same, t.0 ∙ ap quoted same ∙ sym t'.0)
same_kind (ASign s) (ASign s') f r f' r' c t t' e =
    let left : sign_at (f ++ r) ≡ Some s = ap (λ x. sign_at (x ++ r)) t.0 ∙ sign_at-is s r t.1 in
    let right : sign_at (f' ++ r') ≡ Some s' = ap (λ x. sign_at (x ++ r')) t'.0 ∙ sign_at-is s' r' t'.1 in
    let there = ap sign_at e in
    let same : s ≡ s' = cc in
    (ap ASign same, t.0 ∙ ap sign_bytes same ∙ sym t'.0)
same_kind _ _ f r f' r' c t t' e = absurd (cc)

pub record Same (k k' : TokenKind) (f r f' r' : List ℕ) : Type 0 where
  pub kind : k ≡ k'
  pub front : f ≡ f'
  pub rest : r ≡ r'

pub token_unique : (k k' : TokenKind) (f r f' r' : List ℕ) → IsToken k f r → IsToken k' f' r' → f ++ r ≡ f' ++ r' → Same k k' f r f' r'
token_unique k k' f r f' r' t t' e =
    let s = same_kind k k' f r f' r' (sym (class_at-is k f r t) ∙ ap class_at e ∙ class_at-is k' f' r' t') t t' e in
    record { kind = s.0; front = s.1; rest = append_cancel_left f' r r' (ap (λ x. x ++ r) (sym s.1) ∙ e) }

pub token_some : (k : TokenKind) (r : List ℕ) → IsToken k [] r → ⊥
token_some Word r t = t.0
token_some (Int n) r t = t.0
token_some (Text s) r t = let h = t.0 in cc
token_some (ASign Open) r t = let h = t.0 in cc
token_some (ASign Close) r t = let h = t.0 in cc
token_some (ASign Comma) r t = let h = t.0 in cc
token_some (ASign Dot) r t = let h = t.0 in cc
token_some (ASign Arrow) r t = let h = t.0 in cc
token_some (ASign Equal) r t = let h = t.0 in cc
token_some (ASign NotEqual) r t = let h = t.0 in cc
token_some (ASign Less) r t = let h = t.0 in cc
token_some (ASign LessEqual) r t = let h = t.0 in cc
token_some (ASign Greater) r t = let h = t.0 in cc
token_some (ASign GreaterEqual) r t = let h = t.0 in cc

-- how long a first token is
pub first_len : (text : List ℕ) (kind : TokenKind) (n : ℕ) → IsFirstToken text kind n → (0 < n) × (n ≤ length text)
first_len text kind n f = (some f.0 f.2 f.3 f.4, omega (arith, f.3, ap length f.2, length-append f.0 f.1))
  where
    some : (front : List ℕ) → text ≡ front ++ f.1 → n ≡ length front → IsToken kind front f.1 → 0 < n
    some [] e l t = absurd (token_some kind f.1 t)
    some (b ∷ bs) e l t = omega arith

-- ---- no token begins with white space or a comment

digit_no_dash : (bs : List ℕ) → begins is_ascii_digit bs ≡ true → begins (λ c. c == 45) bs ≡ false
digit_no_dash [] h = refl
digit_no_dash (x ∷ xs) h = grind (arith, nat_tests, h)

sign_solid : (s : Sign) (rest : List ℕ) → IsSolid (sign_bytes s ++ rest)
sign_solid Open rest = record { no_space = refl; no_comment = refl }
sign_solid Close rest = record { no_space = refl; no_comment = refl }
sign_solid Comma rest = record { no_space = refl; no_comment = refl }
sign_solid Dot rest = record { no_space = refl; no_comment = refl }
sign_solid Arrow rest = record { no_space = refl; no_comment = refl }
sign_solid Equal rest = record { no_space = refl; no_comment = refl }
sign_solid NotEqual rest = record { no_space = refl; no_comment = refl }
sign_solid Less rest = record { no_space = refl; no_comment = refl }
sign_solid LessEqual rest = record { no_space = refl; no_comment = refl }
sign_solid Greater rest = record { no_space = refl; no_comment = refl }
sign_solid GreaterEqual rest = record { no_space = refl; no_comment = refl }

pub token_solid : (k : TokenKind) (front rest : List ℕ) → IsToken k front rest → IsSolid (front ++ rest)
token_solid Word [] rest t = absurd t.0
token_solid Word (x ∷ xs) rest t =
    let dash : (x == 45) ≡ false = grind (arith, nat_tests, t.0.0) in
    record { no_space = grind (arith, nat_tests, t.0.0); no_comment = rw dash refl }
token_solid (Int n) [] rest t = absurd t.0
token_solid (Int n) (x ∷ []) rest t =
    let dash : (x == 45) ≡ false = grind (arith, nat_tests, t.0.0) in
    record { no_space = grind (arith, nat_tests, t.0.0); no_comment = rw dash refl }
token_solid (Int n) (x ∷ y ∷ xs) rest t =
    let dash : (y == 45) ≡ false = grind (arith, nat_tests, t.0.1) in
    record { no_space = grind (arith, nat_tests, t.0.0); no_comment = grind (arith, nat_tests, dash) }
token_solid (Text s) front rest t = rw t.0 (record { no_space = refl; no_comment = refl })
token_solid (ASign s) front rest t = rw t.0 (sign_solid s rest)

pub nil_solid : IsSolid []
nil_solid = record { no_space = refl; no_comment = refl }

-- ---- tokens before and behind a gap

pub gap_before : (total : ℕ) (s r : List ℕ) (ts : List Token) → Gap s r → TokensAt total r ts → TokensAt total s ts
gap_before total s r [] g a = gap_trans s r [] g a
gap_before total s r (t ∷ ts) g a = (a.0, a.1, a.2, gap_trans s r a.0 g a.3, a.4, a.5, a.6, a.7, a.8)

pub gap_behind : (total : ℕ) (s r : List ℕ) (ts : List Token) → Gap s r → IsSolid r → TokensAt total s ts → TokensAt total r ts
gap_behind total s r [] g solid a = b.none r [] (gap_same s r [] g solid a nil_solid)
gap_behind total s r (t ∷ ts) g solid a =
    let stays = subst IsSolid (sym a.4) (token_solid t.kind a.1 a.2 a.5) in
    (a.0, a.1, a.2, b.none r a.0 (gap_same s r a.0 g solid a.3 stays), a.4, a.5, a.6, a.7, a.8)

-- ---- one token more

-- a first token before the tokens behind it
pub one_more : (total : ℕ) (text : List ℕ) (t : Token) (n : ℕ) (ts : List Token) → IsFirstToken text t.kind n → t.span.start + length text ≡ total → t.span.end ≡ t.span.start + n
    → TokensAt total (drop n text) ts → TokensAt total text (t ∷ ts)
one_more total text t n ts f start end more =
    let behind : drop n text ≡ f.1 = ap (drop n) f.2 ∙ drop_at f.0 f.1 n (sym f.3) in
    (text, f.0, f.1, b.none text text refl, f.2, f.4, start, omega (arith, f.3, ap length f.2, length-append f.0 f.1), subst (λ (x : List ℕ). TokensAt total x ts) behind more)

pub record Peeled (total : ℕ) (text : List ℕ) (t : Token) (n : ℕ) (all : List Token) : Type 0 where
  pub more : List Token
  pub all_is : all ≡ t ∷ more
  pub behind : TokensAt total (drop n text) more

first_solid : (text : List ℕ) (kind : TokenKind) (n : ℕ) → IsFirstToken text kind n → IsSolid text
first_solid text kind n f = subst IsSolid (sym f.2) (token_solid kind f.0 f.1 f.4)

same_token : (t u : Token) → t.kind ≡ u.kind → t.span.start ≡ u.span.start → t.span.end ≡ u.span.end → u ≡ t
same_token t u k s e i = record { kind = sym k i; span = record { start = sym s i; end = sym e i } }

-- the tokens of a text begin with its first token
pub peel : (total : ℕ) (text : List ℕ) (t : Token) (n : ℕ) (all : List Token) → IsFirstToken text t.kind n → t.span.start + length text ≡ total → t.span.end ≡ t.span.start + n
    → TokensAt total text all → Peeled total text t n all
peel total text t n [] f start end a =
    let nil = gap_solid text [] (first_solid text t.kind n f) a in
    absurd (omega (arith, ap length nil, first_len text t.kind n f))
peel total text t n (u ∷ us) f start end a =
    let here = gap_solid text a.0 (first_solid text t.kind n f) a.3 in
    let s = token_unique t.kind u.kind f.0 f.1 a.1 a.2 f.4 a.5 (sym f.2 ∙ here ∙ a.4) in
    let behind : drop n text ≡ a.2 = ap (drop n) f.2 ∙ drop_at f.0 f.1 n (sym f.3) ∙ s.rest in
    let first : t.span.start ≡ u.span.start = omega (arith, a.6, ap length here) in
    let last : t.span.end ≡ u.span.end = omega (arith, a.7, f.3, ap length f.2, length-append f.0 f.1, ap length s.rest) in
    record { more = us; all_is = ap (λ x. x ∷ us) (same_token t u s.kind first last); behind = subst (λ (x : List ℕ). TokensAt total x us) (sym behind) a.8 }

pub refused : (total : ℕ) (text : List ℕ) (all : List Token) → HasNoFirstToken text → IsSolid text → 0 < length text → TokensAt total text all → ⊥
refused total text [] none solid some a = let nil = gap_solid text [] solid a in omega (arith, ap length nil)
refused total text (t ∷ ts) none solid some a = none t.kind a.1 a.2 (gap_solid text a.0 solid a.3 ∙ a.4) a.5

pub ended : (total : ℕ) (rest : List ℕ) (more all done : List Token) → length rest ≡ 0 → all ≡ done ++ more → TokensAt total rest more → all ≡ done
ended total rest [] all done e h t = h ∙ append-nil done
ended total rest (t ∷ ts) all done e h a =
    let gap = gap_suffix rest a.0 a.3 in
    let left : length a.0 ≡ 0 = omega (arith, ap length gap.1, length-append gap.0 a.0) in
    let len = first_len a.0 t.kind (length a.1) (a.1, a.2, a.4, refl, a.5) in
    absurd (omega (arith, len, length-append a.1 a.2))

-- ---- a text has one list of tokens

same_tokens : (total : ℕ) (text : List ℕ) (ts us : List Token) → TokensAt total text ts → TokensAt total text us → ts ≡ us
same_tokens total text [] [] a c = refl
same_tokens total text [] (u ∷ us) a c =
    let stays = subst IsSolid (sym c.4) (token_solid u.kind c.1 c.2 c.5) in
    let nil = gap_same text [] c.0 a nil_solid c.3 stays in
    let len = first_len c.0 u.kind (length c.1) (c.1, c.2, c.4, refl, c.5) in
    absurd (omega (arith, ap length nil, len))
same_tokens total text (t ∷ ts) [] a c =
    let stays = subst IsSolid (sym a.4) (token_solid t.kind a.1 a.2 a.5) in
    let nil = gap_same text [] a.0 c nil_solid a.3 stays in
    let len = first_len a.0 t.kind (length a.1) (a.1, a.2, a.4, refl, a.5) in
    absurd (omega (arith, ap length nil, len))
same_tokens total text (t ∷ ts) (u ∷ us) a c =
    let left = subst IsSolid (sym a.4) (token_solid t.kind a.1 a.2 a.5) in
    let right = subst IsSolid (sym c.4) (token_solid u.kind c.1 c.2 c.5) in
    let here = gap_same text a.0 c.0 a.3 left c.3 right in
    let s = token_unique t.kind u.kind a.1 a.2 c.1 c.2 a.5 c.5 (sym a.4 ∙ here ∙ c.4) in
    let first : t.span.start ≡ u.span.start = omega (arith, a.6, c.6, ap length here) in
    let last : t.span.end ≡ u.span.end = omega (arith, a.7, c.7, ap length s.rest) in
    let head : t ≡ u = sym (same_token t u s.kind first last) in
    let more = same_tokens total a.2 ts us a.8 (subst (λ (x : List ℕ). TokensAt total x us) (sym s.rest) c.8) in
    cc

pub one_list_of_tokens : (text : List ℕ) (tokens others : List Token) → Tokens text tokens → Tokens text others → tokens ≡ others
one_list_of_tokens text tokens others a c = same_tokens (length text) text tokens others a c

-- ---- where tokens stand

pub sliced : (whole pre text front rest : List ℕ) (start end : ℕ) → whole ≡ pre ++ text → text ≡ front ++ rest → start + length text ≡ length whole → end + length rest ≡ length whole
    → slice_of whole start end ≡ front
sliced whole pre text front rest start end w e a c =
    let p : length pre ≡ start = omega (arith, ap length w, length-append pre text) in
    let q : length front ≡ end - start = omega (arith, ap length w, length-append pre text, ap length e, length-append front rest) in
    ap (λ x. take (end - start) (drop start x)) w ∙ ap (take (end - start)) (drop_at pre text start p ∙ e) ∙ take_at front rest (end - start) q

pub word_token : (k : TokenKind) (front rest : List ℕ) → IsToken k front rest → k ≡ Word → IsWord front
word_token Word front rest t e = t.0
word_token (Int n) front rest t e = absurd (cc)
word_token (Text s) front rest t e = absurd (cc)
word_token (ASign s) front rest t e = absurd (cc)

within_at : (whole pre text : List ℕ) (ts : List Token) → whole ≡ pre ++ text → TokensAt (length whole) text ts → All (InText whole) ts
within_at whole pre text [] w h = All-nil (InText whole)
within_at whole pre text (t ∷ ts) w h =
    let gap = gap_suffix text h.0 h.3 in
    let before : whole ≡ (pre ++ gap.0) ++ h.0 = w ∙ ap (λ x. pre ++ x) gap.1 ∙ sym (append_assoc pre gap.0 h.0) in
    let s = sliced whole (pre ++ gap.0) h.0 h.1 h.2 t.span.start t.span.end before h.4 h.6 h.7 in
    let behind : whole ≡ ((pre ++ gap.0) ++ h.1) ++ h.2 = before ∙ ap (λ x. (pre ++ gap.0) ++ x) h.4 ∙ sym (append_assoc (pre ++ gap.0) h.1 h.2) in
    let len : length h.0 ≡ length h.1 + length h.2 = ap length h.4 ∙ length-append h.1 h.2 in
    All-cons (InText whole) t ts
    (record { ordered = omega (arith, h.6, h.7); within = omega (arith, h.7); word = λ e. subst IsWord (sym s) (word_token t.kind h.1 h.2 h.5 e) })
    (within_at whole ((pre ++ gap.0) ++ h.1) h.2 ts behind h.8)

pub tokens_within : (text : List ℕ) (ts : List Token) → Tokens text ts → All (InText text) ts
tokens_within text ts h = within_at text [] text ts refl h

pub token_within : (text : List ℕ) (ts : List Token) (i : ℕ) (t : Token) → Tokens text ts → i < length ts → t ≡ get_or ts i t → InText text t
token_within text ts i t h l e = subst (InText text) (sym e) (tokens_within text ts h i t l)
