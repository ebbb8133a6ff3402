-- Words ask for a bank of one number of rows or for none, and of it one text is told.
use Rattle.std.proofs.Common.{◌≡◌, ◌+◌, ◌⊎◌, ℕ, Bool, true, false, List, [], ◌∷◌, ◌++◌, None, map, get_or, refl, ap, sym, ◌∙◌, subst, inl, inr, arith, true≢false}
use Rattle.std.specs.Prelude.{bytes_eq, codes, decimal}
use Rattle.std.specs.Str.Parse.{digits_value}
use Rattle.std.proofs.Math.Dec.{leb}
use Rattle.std.proofs.lemmas.Bool.{leb-true, le-leb}
use Rattle.std.proofs.lemmas.Fmt.{decimal_is_IsNumeral}
use Rattle.std.proofs.lemmas.Slice.Eq.{bytes_eq-Decides}
use Rattle.su_lex.specs.declared.spans.Span.{Span}
use Rattle.su_lex.proofs.Cuts.{one_list_of_pieces}
use Rattle.su_ddl.specs.Files.{no_definitions, statement_of}
use Rattle.su_state.specs.DatabaseValue.{DatabaseValue}
use Rattle.su_session.specs.EmptyDatabase.{empty_database}
use Rattle.su_session.specs.declared.replies.Reply.{Reply}
use Rattle.su_once.specs.States.{AreAlike}
use Rattle.su_once.proofs.Replied.{one_reply}
use Rattle.su_bank.specs.Banks.{Takes, Finds, FindsAll, IsBankText, four_queries}
use Rattle.su_bank.specs.Lines.{found_line}
use Rattle.su_bank.specs.Scripts.{bank_script}
use Rattle.sysu.specs.Words.{Generates}

-- ---- words

abbrev number_in : List (List ℕ) → ℕ
number_in words = digits_value 10 (get_or words 1 [])

its_number : (words : List (List ℕ)) (n : ℕ) → Generates words n → n ≡ number_in words
its_number words n (least, most, are) = sym (decimal_is_IsNumeral n (omega (arith, most))).1 ∙ ap (λ (ws : List (List ℕ)). digits_value 10 (get_or ws 1 [])) (sym are)

-- two words, by what the tests say of them
two_words : (word digits : List ℕ) (n : ℕ) (a b c d : Bool) → bytes_eq word (codes "generate") ≡ a → bytes_eq digits (decimal n) ≡ b → leb 1 n ≡ c → leb n 1000 ≡ d
    → Generates (word ∷ digits ∷ []) n ⊎ (¬ Generates (word ∷ digits ∷ []) n)
two_words word digits n true true true true p q r e =
    let w = (bytes_eq-Decides word (codes "generate")).0 p in let g = (bytes_eq-Decides digits (decimal n)).0 q in
    inl (leb-true 1 n r, leb-true n 1000 e, cc)
two_words word digits n false b c d p q r e = inr (λ (least, most, are). true≢false (sym ((bytes_eq-Decides word (codes "generate")).1 (ap (λ (ws : List (List ℕ)). get_or ws 0 []) are)) ∙ p))
two_words word digits n true false c d p q r e = inr (λ (least, most, are). true≢false (sym ((bytes_eq-Decides digits (decimal n)).1 (ap (λ (ws : List (List ℕ)). get_or ws 1 []) are)) ∙ q))
two_words word digits n true true false d p q r e = inr (λ (least, most, are). true≢false (sym (le-leb 1 n least) ∙ r))
two_words word digits n true true true false p q r e = inr (λ (least, most, are). true≢false (sym (le-leb n 1000 most) ∙ e))

asks : (words : List (List ℕ)) (n : ℕ) → Generates words n ⊎ (¬ Generates words n)
asks [] n = inr (λ (least, most, are). absurd (cc))
asks (word ∷ []) n = inr (λ (least, most, are). absurd (cc))
asks (word ∷ digits ∷ []) n = two_words word digits n (bytes_eq word (codes "generate")) (bytes_eq digits (decimal n)) (leb 1 n) (leb n 1000) refl refl refl refl
asks (word ∷ digits ∷ more ∷ rest) n = inr (λ (least, most, are). absurd (cc))

-- for a bank of some number of rows, or for none
pub data Asks (words : List (List ℕ)) : Type 0 where
  for_bank : (n : ℕ) → Generates words n → Asks words
  for_none : ((n : ℕ) → ¬ Generates words n) → Asks words

asked_by : (words : List (List ℕ)) → Generates words (number_in words) ⊎ (¬ Generates words (number_in words)) → Asks words
asked_by words (inl asked) = for_bank (number_in words) asked
asked_by words (inr none) = for_none (λ n asked. none (subst (Generates words) (its_number words n asked) asked))

pub asked : (words : List (List ℕ)) → Asks words
asked words = asked_by words (asks words (number_in words))

-- ---- the text

pub itself : (a : DatabaseValue) → AreAlike a a
itself a = record { schema = refl; tables = refl; rows = λ r z. (λ h. h, λ h. h); counts = λ r. refl }

one_taken : (texts : List (List ℕ)) (a b c d : DatabaseValue) → AreAlike a b → Takes a texts c → Takes b texts d → AreAlike c d
one_taken [] a b c d alike h k = rw (h, k) alike
one_taken (t ∷ ts) a b c d alike (kept, (reply, next, replied, more)) (also, (other, then, answers, rest)) =
    one_taken ts next then c d (one_reply a b next then t None reply other alike kept also replied answers).1 more rest

-- of one query
one_found : (a b c d : DatabaseValue) (number : ℕ) (query line other : List ℕ) → AreAlike a b → Finds a number query line c → Finds b number query other d → (line ≡ other) × AreAlike c d
one_found a b c d number query line other alike h k =
    let e = one_reply a b h.between k.between (codes "explain " ++ query) None h.explained k.explained alike h.kept k.kept h.explains k.explains in
    let r = one_reply h.between k.between c d query None h.answered k.answered e.1 h.still_kept k.still_kept h.answers k.answers in
    (h.line_is ∙ ap (λ (x : Reply). found_line number x.bytes h.answered.bytes) e.0 ∙ ap (λ (x : Reply). found_line number k.explained.bytes x.bytes) r.0 ∙ sym k.line_is, r.1)

all_found : (queries : List (List ℕ)) (a b c d : DatabaseValue) (number : ℕ) (lines others : List ℕ) → AreAlike a b → FindsAll a number queries lines c → FindsAll b number queries others d → lines ≡ others
all_found [] a b c d number lines others alike h k = h.0 ∙ sym k.0
all_found (q ∷ qs) a b c d number lines others alike (line, next, rest, finds, later, is) (other, then, more, found, after, same) =
    let one = one_found a b next then number q line other alike finds found in
    let left = all_found qs next then c d (number + 1) rest more one.1 later after in
    is ∙ ap (λ (x : List ℕ). x ++ rest) one.0 ∙ ap (λ (x : List ℕ). other ++ x) left ∙ sym same

pub one_bank : (n : ℕ) (text other : List ℕ) → IsBankText n text → IsBankText n other → text ≡ other
one_bank n text other h k =
    let first : DatabaseValue = empty_database no_definitions in
    let spans : k.made.spans ≡ h.made.spans = one_list_of_pieces (bank_script n) k.made.spans h.made.spans k.made.pieces h.made.pieces in
    let banks = one_taken (map (statement_of (bank_script n)) h.made.spans) first first h.bank k.bank (itself first) h.made.takes
    (subst (λ (s : List Span). Takes first (map (statement_of (bank_script n)) s) k.bank) spans k.made.takes) in
    let lines = all_found four_queries h.bank k.bank h.last k.last 1 h.lines k.lines banks h.found k.found in
    h.text_is ∙ ap (λ (x : List ℕ). codes "bank " ++ decimal n ++ codes "\n" ++ x) lines ∙ sym k.text_is
