-- Texts in quotes at the front of a text.
use Rattle.std.proofs.Common.{◌≡◌, ◌≤◌, ◌+◌, ℕ, Bool, true, false, not, List, [], ◌∷◌, ◌++◌, ◌==◌, length, take, drop, refl, ap, sym, ◌∙◌, arith, subst, append_assoc, append-nil, length-append}
use Rattle.std.proofs.lemmas.Bool.{false≢true}
use Rattle.std.proofs.lemmas.Bool.Decides.{nat_tests}
use Rattle.su_lex.specs.Blanks.{begins}
use Rattle.su_lex.specs.TokenForms.{IsToken, quoted, doubled, twice}
use Rattle.su_lex.specs.inside.Firsts.{IsFirstToken, HasNoFirstToken}
use Rattle.su_lex.specs.inside.Classes.{class_at, place_at}
use Rattle.su_lex.specs.declared.kinds.TokenKind.{TokenKind}
use Rattle.su_lex.specs.declared.kinds.TokenKind.TheVariants.{Word, Int, Text, Sign as ASign}
use Rattle.su_lex.specs.declared.firsts.Class.TheVariants.{Text as OfText}
use Rattle.std.specs.Str.{IsUtf8}
use Rattle.std.specs.List.{prefix_len, list_all}
use Rattle.su_lex.proofs.Runs.{run_at}
use Rattle.su_lex.specs.declared.quoting.QuotedPart.TheVariants.{Content, Close as AClose, Missing}
use Rattle.su_lex.proofs.Fronts.{class_of, class_at-is}
use Rattle.su_lex.proofs.Printed.{doubled_push}

is_quote : ℕ → Bool
is_quote b = b == 39

heads : (c d : ℕ) (x y : List ℕ) → twice c ++ x ≡ twice d ++ y → (c ≡ d) × (x ≡ y)
heads c d x y e = elim (c == 39) as (λ v. (c == 39) ≡ v → (c ≡ d) × (x ≡ y)) [
  | true ↦ λ p. elim (d == 39) as (λ v. (d == 39) ≡ v → (c ≡ d) × (x ≡ y)) [
    | true ↦ λ q. let h : c ≡ d = grind (arith, nat_tests, p, q) in let e' = rw (p, q) at e in (h, cc)
    | false ↦ λ q. let e' = rw (p, q) at e in let h : d ≡ 39 = cc in absurd (grind (arith, nat_tests, h, q))
  ] refl
  | false ↦ λ p. elim (d == 39) as (λ v. (d == 39) ≡ v → (c ≡ d) × (x ≡ y)) [
    | true ↦ λ q. let e' = rw (p, q) at e in let h : c ≡ 39 = cc in absurd (grind (arith, nat_tests, h, p))
    | false ↦ λ q. let e' = rw (p, q) at e in (cc, cc)
  ] refl
] refl

no_head : (c : ℕ) (x r : List ℕ) → begins (λ b. b == 39) r ≡ false → twice c ++ x ≡ 39 ∷ r → ⊥
no_head c x r ends e = elim (c == 39) as (λ v. (c == 39) ≡ v → ⊥) [
  | true ↦ λ p. let e' = rw p at e in let h : 39 ∷ x ≡ r = cc in false≢true (sym ends ∙ ap (begins (λ b. b == 39)) (sym h))
  | false ↦ λ p. let e' = rw p at e in let h : c ≡ 39 = cc in grind (arith, nat_tests, h, p)
] refl

-- a text whose content begins with what is done goes on with what is left
pub goes_on : (done t rest r : List ℕ) → begins (λ b. b == 39) r ≡ false → doubled done ++ rest ≡ doubled t ++ 39 ∷ r
    → (more : List ℕ) × (t ≡ done ++ more) × (rest ≡ doubled more ++ 39 ∷ r)
goes_on [] t rest r ends e = (t, refl, e)
goes_on (c ∷ cs) [] rest r ends e = absurd (no_head c (doubled cs ++ rest) r ends (sym (append_assoc (twice c) (doubled cs) rest) ∙ e))
goes_on (c ∷ cs) (d ∷ ds) rest r ends e =
    let h = heads c d (doubled cs ++ rest) (doubled ds ++ 39 ∷ r) (sym (append_assoc (twice c) (doubled cs) rest) ∙ e ∙ append_assoc (twice d) (doubled ds) (39 ∷ r)) in
    let s = goes_on cs ds rest r ends h.1 in
    (s.0, cc, s.2)

pub record AtText (content rest : List ℕ) (kind : TokenKind) (after : List ℕ) : Type 0 where
  pub more : List ℕ
  pub kind_is : kind ≡ Text (content ++ more)
  pub rest_is : rest ≡ doubled more ++ 39 ∷ after
  pub utf8 : IsUtf8 (content ++ more)
  pub short : length (content ++ more) ≤ 4096

text_there : (kind : TokenKind) (front after content rest : List ℕ) → class_of kind ≡ OfText → IsToken kind front after → front ++ after ≡ 39 ∷ (doubled content ++ rest) → AtText content rest kind after
text_there Word front after content rest c t e = absurd (cc)
text_there (Int n) front after content rest c t e = absurd (cc)
text_there (ASign s) front after content rest c t e = absurd (cc)
text_there (Text s) front after content rest c t e =
    let whole : 39 ∷ (doubled content ++ rest) ≡ 39 ∷ (doubled s ++ 39 ∷ after) = sym e ∙ ap (λ x. x ++ after) t.0 ∙ ap (λ x. 39 ∷ x) (append_assoc (doubled s) (39 ∷ []) after) in
    let h = goes_on content s rest after t.3 (cc) in record {
      more = h.0;
      kind_is = ap Text h.1;
      rest_is = h.2;
      utf8 = subst IsUtf8 h.1 t.1;
      short = subst (λ (x : List ℕ). length x ≤ 4096) h.1 t.2;
    }

pub at_text : (text content rest : List ℕ) → class_at text ≡ OfText → text ≡ 39 ∷ (doubled content ++ rest)
    → (kind : TokenKind) (front after : List ℕ) → text ≡ front ++ after → IsToken kind front after → AtText content rest kind after
at_text text content rest c whole kind front after e t =
    text_there kind front after content rest (sym (class_at-is kind front after t) ∙ ap class_at (sym e) ∙ c) t (sym e ∙ whole)

no_more : (more after : List ℕ) → doubled more ++ 39 ∷ after ≡ [] → ⊥
no_more [] after e = cc
no_more (c ∷ cs) after e = elim (c == 39) as (λ v. (c == 39) ≡ v → ⊥) [ true ↦ λ p. let e' = rw p at e in cc | false ↦ λ p. let e' = rw p at e in cc ] refl

pub text_no_end : (text content rest : List ℕ) → class_at text ≡ OfText → text ≡ 39 ∷ (doubled content ++ rest) → rest ≡ [] → HasNoFirstToken text
text_no_end text content rest c whole end kind front after e t =
    let a = at_text text content rest c whole kind front after e t in
    no_more a.more after (sym a.rest_is ∙ end)

closes : (more after behind : List ℕ) → begins (λ b. b == 39) behind ≡ false → 39 ∷ behind ≡ doubled more ++ 39 ∷ after → more ≡ []
closes [] after behind ends e = refl
closes (c ∷ cs) after behind ends e = absurd (no_head c (doubled cs ++ 39 ∷ after) behind ends (sym (append_assoc (twice c) (doubled cs) (39 ∷ after)) ∙ sym e))

pub text_refused : (text content rest behind : List ℕ) → class_at text ≡ OfText → text ≡ 39 ∷ (doubled content ++ rest) → rest ≡ 39 ∷ behind → begins (λ b. b == 39) behind ≡ false
    → ¬ (IsUtf8 content × (length content ≤ 4096)) → HasNoFirstToken text
text_refused text content rest behind c whole at ends bad kind front after e t =
    let a = at_text text content rest c whole kind front after e t in
    let nil = closes a.more after behind ends (sym at ∙ a.rest_is) in
    let same : content ++ a.more ≡ content = ap (λ x. content ++ x) nil ∙ append-nil content in
    bad (subst IsUtf8 same a.utf8, subst (λ (x : List ℕ). length x ≤ 4096) same a.short)

pub text_found : (text content rest behind : List ℕ) (n : ℕ) → text ≡ 39 ∷ (doubled content ++ rest) → rest ≡ 39 ∷ behind → begins (λ b. b == 39) behind ≡ false
    → IsUtf8 content → length content ≤ 4096 → n + length rest ≡ length text + 1 → IsFirstToken text (Text content) n
text_found text content rest behind n whole at ends utf8 short count =
    let same : text ≡ quoted content ++ behind = whole ∙ ap (λ x. 39 ∷ (doubled content ++ x)) at ∙ ap (λ x. 39 ∷ x) (sym (append_assoc (doubled content) (39 ∷ []) behind)) in
    (quoted content, behind, same, omega (arith, ap length whole, ap length at, length-append (doubled content) rest, length-append (doubled content) (39 ∷ [])), (refl, utf8, short, ends))

-- a text's content grows by one byte
pub grows : (text content rest behind : List ℕ) (b : ℕ) → text ≡ 39 ∷ (doubled content ++ rest) → rest ≡ twice b ++ behind → text ≡ 39 ∷ (doubled (content ++ b ∷ []) ++ behind)
grows text content rest behind b whole at =
    whole ∙ ap (λ x. 39 ∷ x) (ap (λ x. doubled content ++ x) at ∙ sym (append_assoc (doubled content) (twice b) behind) ∙ ap (λ x. x ++ behind) (sym (doubled_push content b)))

pub text_same : (s t r r' : List ℕ) → begins (λ b. b == 39) r ≡ false → begins (λ b. b == 39) r' ≡ false → quoted s ++ r ≡ quoted t ++ r' → s ≡ t
text_same s t r r' ends ends' e =
    let left : quoted s ++ r ≡ 39 ∷ (doubled s ++ 39 ∷ r) = ap (λ x. 39 ∷ x) (append_assoc (doubled s) (39 ∷ []) r) in
    let right : quoted t ++ r' ≡ 39 ∷ (doubled t ++ 39 ∷ r') = ap (λ x. 39 ∷ x) (append_assoc (doubled t) (39 ∷ []) r') in
    let same : doubled s ++ 39 ∷ r ≡ doubled t ++ 39 ∷ r' = cc in
    let h = goes_on s t (39 ∷ r) r' ends' same in
    let nil = closes h.0 r' r ends h.2 in
    sym (append-nil s) ∙ ap (λ x. s ++ x) (sym nil) ∙ sym h.1

-- ---- pieces

pub text_start : (text : List ℕ) → class_at text ≡ OfText → text ≡ 39 ∷ drop 1 text
text_start [] c = absurd (cc)
text_start (b ∷ bs) c = let h : b ≡ 39 = grind (arith, nat_tests, c) in ap (λ x. x ∷ bs) h

pub piece_content : (rest : List ℕ) (b : ℕ) → place_at rest ≡ Content b → rest ≡ twice b ++ drop (length (twice b)) rest
piece_content [] b e = absurd (cc)
piece_content (x ∷ []) b e =
    let h : (x ≡ b) × ((b == 39) ≡ false) = grind (arith, nat_tests, e) in
    rw h.1 (ap (λ y. y ∷ []) h.0)
piece_content (x ∷ y ∷ rest) b e = elim (b == 39) as (λ v. (b == 39) ≡ v → x ∷ y ∷ rest ≡ twice b ++ drop (length (twice b)) (x ∷ y ∷ rest)) [
  | true ↦ λ q. let h : (x ≡ 39) × (y ≡ 39) = grind (arith, nat_tests, e, q) in rw (q, h.0, h.1) refl
  | false ↦ λ q. let h : x ≡ b = grind (arith, nat_tests, e, q) in rw (q, h) refl
] refl

pub piece_close : (rest : List ℕ) → place_at rest ≡ AClose → (rest ≡ 39 ∷ drop 1 rest) × (begins (λ b. b == 39) (drop 1 rest) ≡ false)
piece_close [] e = absurd (cc)
piece_close (x ∷ rest) e = let h : (x ≡ 39) × (begins (λ b. b == 39) rest ≡ false) = grind (arith, nat_tests, e) in (ap (λ y. y ∷ rest) h.0, h.1)

pub piece_missing : (rest : List ℕ) → place_at rest ≡ Missing → rest ≡ []
piece_missing [] e = refl
piece_missing (x ∷ rest) e = absurd (grind (arith, nat_tests, e))

-- content without a quote is written as it is
pub doubled_plain : (content : List ℕ) → list_all (λ b. not (b == 39)) content ≡ true → doubled content ≡ content
doubled_plain [] plain = refl
doubled_plain (c ∷ cs) plain = elim (c == 39) as (λ v. (c == 39) ≡ v → doubled (c ∷ cs) ≡ c ∷ cs) [
  | true ↦ λ q. absurd (grind (arith, q, plain))
  | false ↦ λ q. let rest : list_all (λ b. not (b == 39)) cs ≡ true = grind (arith, q, plain) in rw q (ap (λ x. c ∷ x) (doubled_plain cs rest))
] refl

-- a text up to its first quote
pub text_run : (text behind : List ℕ) (n : ℕ) → class_at text ≡ OfText → behind ≡ drop 1 text → n ≡ prefix_len (λ b. not (b == 39)) behind → text ≡ 39 ∷ (doubled (take n behind) ++ drop n behind)
text_run text behind n c is count =
    let r = run_at (λ b. not (b == 39)) behind n count in
    text_start text c ∙ ap (λ x. 39 ∷ x) (sym is ∙ r.0 ∙ ap (λ x. x ++ drop n behind) (sym (doubled_plain (take n behind) r.1.passes)))
