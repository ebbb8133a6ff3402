-- Plain characters, and content of elements.
use Rattle.std.proofs.Common.{◌≡◌, ◌≤◌, ◌<◌, ⊎_elim, ℕ, zero, suc, Bool, true, false, cond, List, [], ◌∷◌, ◌++◌, refl, sym, ap, ◌∙◌, subst, inl, inr, lit≤, lit<, arith, append_assoc, append-nil}
use Rattle.std.specs.Prelude.{◌==◌, ◌&&◌, ◌||◌, ◌/◌, ◌%◌, ◌+◌, not, nat_le, nat_lt, codes, decimal}
use Rattle.std.specs.List.{list_all}
use Rattle.std.specs.Fmt.{digits, digits_onto, digit_glyph}
use Rattle.std.proofs.lemmas.Bool.Decides.{nat_tests}
use Rattle.std.proofs.lemmas.Bool.{ltb-true, ltb-false, leb-true, and_parts, or_cases, cond_both}
use Rattle.su_draw.specs.declared.escaping.Begun.{Begun}
use Rattle.su_draw.specs.Xml.{is_plain, IsChar, is_name, Attribute, AreAttributes, element_text, IsContent, nothing, plain, reference, element}
use Rattle.su_draw.specs.Characters.{shown_for, char_text}
use Rattle.su_draw.specs.EscapedBytes.{begun_with, bits_with, first_text, goes_on, byte_text, begun_behind, escaped_on, escaped, none_begun}
use Rattle.su_draw.specs.Shapes.{element_line}

abbrev pub ArePlain : List ℕ → Type 0
ArePlain cs = list_all is_plain cs ≡ true

-- two tests that hold, of which the second is changed
both : (a b c : Bool) → (a && b) ≡ true → (b ≡ true → c ≡ true) → (a && c) ≡ true
both true b c p f = f p
both false b c p f = absurd (let bad : false ≡ true = p in cc)

pub plain-append : (xs ys : List ℕ) → ArePlain xs → ArePlain ys → ArePlain (xs ++ ys)
plain-append [] ys p q = q
plain-append (x ∷ xs) ys p q = both (is_plain x) (list_all is_plain xs) (list_all is_plain (xs ++ ys)) p (λ r. plain-append xs ys r q)

pub plain-if : (b : Bool) (xs ys : List ℕ) → ArePlain xs → ArePlain ys → ArePlain (cond b xs ys)
plain-if true xs ys p q = p
plain-if false xs ys p q = q

-- digits are plain
digit-plain : (d : ℕ) → d < 10 → is_plain (digit_glyph false d) ≡ true
digit-plain d h = grind (arith, nat_tests)

digits_onto-plain : (k n : ℕ) (acc : List ℕ) → ArePlain acc → ArePlain (digits_onto k 10 false n acc)
digits_onto-plain zero n acc p = p
digits_onto-plain (suc k) n acc p =
    let low : n % 10 < 10 = omega arith in
    let g = digit_glyph false (n % 10) in
    let more : ArePlain (g ∷ acc) = ap (λ b. b && list_all is_plain acc) (digit-plain (n % 10) low) ∙ p in
    plain-if (n / 10 == 0) (g ∷ acc) (digits_onto k 10 false (n / 10) (g ∷ acc)) more (digits_onto-plain k (n / 10) (g ∷ acc) more)

pub decimal-plain : (n : ℕ) → ArePlain (decimal n)
unfolding digits
decimal-plain n = digits_onto-plain 64 n [] refl

-- the character that is shown is one of XML
in_ranges : (c : ℕ) → 32 ≤ c → (nat_lt c 55296 || (nat_le 57344 c && nat_lt c 65534) || (nat_le 65536 c && nat_lt c 1114112)) ≡ true → IsChar c
in_ranges c low h =
    ⊎_elim
    (λ (front : (nat_lt c 55296 || (nat_le 57344 c && nat_lt c 65534)) ≡ true).
    let P : Type 0 = IsChar c in
    ⊎_elim
    (λ (a : nat_lt c 55296 ≡ true). let r : P = inl (low, ltb-true c 55296 a) in r)
    (λ (b : (nat_le 57344 c && nat_lt c 65534) ≡ true).
    let ps = and_parts (nat_le 57344 c) (nat_lt c 65534) b in
    let r : P = inr (inl (leb-true 57344 c ps.0, ltb-true c 65534 ps.1)) in r)
    (or_cases (nat_lt c 55296) (nat_le 57344 c && nat_lt c 65534) front))
    (λ (b : (nat_le 65536 c && nat_lt c 1114112) ≡ true).
    let P : Type 0 = IsChar c in
    let ps = and_parts (nat_le 65536 c) (nat_lt c 1114112) b in
    let r : P = inr (inr (leb-true 65536 c ps.0, ltb-true c 1114112 ps.1)) in r)
    (or_cases (nat_lt c 55296 || (nat_le 57344 c && nat_lt c 65534)) (nat_le 65536 c && nat_lt c 1114112) h)

control-char : (c : ℕ) → c < 32 → IsChar (9216 + c)
control-char c h = inl (let low : 32 ≤ 9216 + c = omega arith in low, let high : 9216 + c < 55296 = omega arith in high)

deleted-char : IsChar 9249
deleted-char = inl (lit≤ tt, lit< tt)

replacement-char : IsChar 65533
replacement-char = inr (inl (lit≤ tt, lit< tt))

shown-char : (c : ℕ) → IsChar (shown_for c)
shown-char c =
    let ranges : Bool = nat_lt c 55296 || (nat_le 57344 c && nat_lt c 65534) || (nat_le 65536 c && nat_lt c 1114112) in
    cond_both (nat_lt c 32) (9216 + c) (cond (c == 127) 9249 (cond ranges c 65533)) IsChar (λ h. control-char c (ltb-true c 32 h))
    (λ low. cond_both (c == 127) 9249 (cond ranges c 65533) IsChar (λ h. deleted-char)
    (λ other. cond_both ranges c 65533 IsChar (λ h. in_ranges c (ltb-false c 32 low) h) (λ h. replacement-char)))

-- a character as content
content-if : (b : Bool) (x y rest : List ℕ) → (b ≡ true → IsContent (x ++ rest)) → (b ≡ false → IsContent (y ++ rest)) → IsContent (cond b x y ++ rest)
content-if true x y rest f g = f refl
content-if false x y rest f g = g refl

pub char_text-content : (c : ℕ) (rest : List ℕ) → IsContent rest → IsContent (char_text c ++ rest)
char_text-content c rest content =
    content-if (is_plain c && not (c == 10)) (c ∷ []) (codes "&#" ++ decimal (shown_for c) ++ codes ";") rest
    (λ h. plain c rest (and_parts (is_plain c) (not (c == 10)) h).0 content)
    (λ h. reference (shown_for c) rest (shown-char c) content)

first_text-content : (b : ℕ) (rest : List ℕ) → IsContent rest → IsContent (first_text b ++ rest)
first_text-content b rest content =
    content-if ((begun_with b).left == 0) (char_text (cond (nat_lt b 128) b 65533)) [] rest (λ h. char_text-content (cond (nat_lt b 128) b 65533) rest content) (λ h. content)

byte_text-content : (s : Begun) (b : ℕ) (rest : List ℕ) → IsContent rest → IsContent (byte_text s b ++ rest)
byte_text-content s b rest content =
    let last : List ℕ = cond (s.left == 1) (char_text (bits_with s.bits b)) [] in
    let broken : List ℕ = char_text 65533 ++ first_text b in
    let P : List ℕ → Type 0 = λ t. IsContent t in
    content-if (s.left == 0) (first_text b) (cond (not (goes_on b)) broken last) rest (λ h. first_text-content b rest content)
    (λ h. content-if (not (goes_on b)) broken last rest
    (λ g. subst P (sym (append_assoc (char_text 65533) (first_text b) rest)) (char_text-content 65533 (first_text b ++ rest) (first_text-content b rest content)))
    (λ g. content-if (s.left == 1) (char_text (bits_with s.bits b)) [] rest (λ e. char_text-content (bits_with s.bits b) rest content) (λ e. content)))

pub escaped_on-content : (s : Begun) (bs rest : List ℕ) → IsContent rest → IsContent (escaped_on s bs ++ rest)
escaped_on-content s [] rest content = content-if (s.left == 0) [] (char_text 65533) rest (λ h. content) (λ h. char_text-content 65533 rest content)
escaped_on-content s (b ∷ bs) rest content =
    let P : List ℕ → Type 0 = λ t. IsContent t in
    subst P (sym (append_assoc (byte_text s b) (escaped_on (begun_behind s b) bs) rest)) (byte_text-content s b (escaped_on (begun_behind s b) bs ++ rest) (escaped_on-content (begun_behind s b) bs rest content))

pub escaped-content : (bs : List ℕ) → IsContent (escaped bs)
escaped-content bs =
    let P : List ℕ → Type 0 = λ t. IsContent t in
    subst P (append-nil (escaped bs)) (escaped_on-content none_begun bs [] nothing)

-- an element on a line of its own
pub element_line-content : (name : List ℕ) (attributes : List Attribute) (inside rest : List ℕ) → is_name name ≡ true → AreAttributes attributes → IsContent inside → IsContent rest
    → IsContent (element_line name attributes inside ++ rest)
element_line-content name attributes inside rest n a i r =
    let P : List ℕ → Type 0 = λ t. IsContent t in
    subst P (sym (append_assoc (element_text name attributes inside) (codes "\n") rest)) (element name attributes inside (codes "\n" ++ rest) n a i (plain 10 rest refl r))
