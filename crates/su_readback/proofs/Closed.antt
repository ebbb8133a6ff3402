-- The words of a schema's lines are closed.
-- The idea: names and decimals hold no blank, no line feed and no quote, and neither does what is written around them.
use Rattle.std.proofs.Common.{◌≡◌, ◌<◌, ◌%◌, ◌/◌, ℕ, zero, suc, Bool, true, false, cond, List, [], ◌∷◌, ◌++◌, map, refl, ap, ◌∙◌, arith}
use Rattle.std.specs.Prelude.{◌==◌, ◌&&◌, ◌||◌, not, codes, decimal}
use Rattle.std.specs.Fmt.{digits, digits_onto, digit_glyph}
use Rattle.std.specs.List.{list_all, AllByRecursion}
use Rattle.std.proofs.lemmas.Bool.{and_parts}
use Rattle.std.proofs.lemmas.Bool.Decides.{nat_tests}
use Rattle.std.proofs.lemmas.List.Folds.{list_all-append}
use Rattle.std.proofs.lemmas.List.Elements.{recursion_from_All}
use Rattle.su_base.specs.Name.{is_letter_or_digit, IsName}
use Rattle.su_base.specs.declared.values.Kind.{Kind}
use Rattle.su_base.specs.declared.values.Kind.TheVariants as kind
use Rattle.su_base.specs.declared.values.Column.{Column}
use Rattle.su_lex.proofs.Fronts.{word_all}
use Rattle.su_schema.specs.Entries.{column_names}
use Rattle.su_schema.specs.declared.definitions.Definition.{Definition}
use Rattle.su_schema.specs.declared.definitions.Definition.TheVariants.{Attribute, Relation, Object, Fd, Maximal}
use Rattle.su_schema.specs.WellNamed.{IsWellNamed}
use Rattle.su_ddl.specs.ShownDefinitions.{name_at}
use Rattle.su_readback.specs.Words.{is_closed, are_closed}
use Rattle.su_readback.specs.Schemas.{kind_word, closed_by, with_commas, opened, column_words, definition_words}

-- ---- bytes

pub both : (a b : Bool) → a ≡ true → b ≡ true → (a && b) ≡ true
both a b p q = ap (λ t. t && b) p ∙ q

pub closed_append : (q : Bool) (v w : List ℕ) → is_closed q v ≡ true → is_closed false w ≡ true → is_closed q (v ++ w) ≡ true
closed_append true [] w h k = absurd (let e : false ≡ true = h in cc)
closed_append false [] w h k = k
closed_append q (b ∷ bs) w h k =
    let next = cond (b == 39) (not q) q in
    let parts = and_parts (q || not (b == 10 || b == 32)) (is_closed next bs) h in
    both _ _ parts.0 (closed_append next bs w parts.1 k)

plain_byte : (x y z : Bool) (bs : List ℕ) → x ≡ false → y ≡ false → z ≡ false → is_closed false bs ≡ true → (not (x || y) && is_closed (cond z true false) bs) ≡ true
plain_byte false false false bs p q r h = h
plain_byte true y z bs p q r h = absurd (let e : true ≡ false = p in cc)
plain_byte false true z bs p q r h = absurd (let e : true ≡ false = q in cc)
plain_byte false false true bs p q r h = absurd (let e : true ≡ false = r in cc)

letter_plain : (b : ℕ) → is_letter_or_digit b ≡ true → ((b == 10) ≡ false) × ((b == 32) ≡ false) × ((b == 39) ≡ false)
letter_plain b h = (grind (arith, nat_tests, h), grind (arith, nat_tests, h), grind (arith, nat_tests, h))

pub letters_closed : (w : List ℕ) → list_all is_letter_or_digit w ≡ true → is_closed false w ≡ true
letters_closed [] h = refl
letters_closed (b ∷ bs) h =
    let parts = and_parts (is_letter_or_digit b) (list_all is_letter_or_digit bs) h in
    let plain = letter_plain b parts.0 in
    plain_byte (b == 10) (b == 32) (b == 39) bs plain.0 plain.1 plain.2 (letters_closed bs parts.1)

pub name_closed : (w : List ℕ) → IsName w → is_closed false w ≡ true
name_closed w h = letters_closed w (word_all w h.0)

-- digits are letters or digits
digit_letter : (d : ℕ) → d < 10 → is_letter_or_digit (digit_glyph false d) ≡ true
digit_letter d h = grind (arith, nat_tests)

either_all : (b : Bool) (xs ys : List ℕ) → list_all is_letter_or_digit xs ≡ true → list_all is_letter_or_digit ys ≡ true → list_all is_letter_or_digit (cond b xs ys) ≡ true
either_all true xs ys p q = p
either_all false xs ys p q = q

digits_all : (k n : ℕ) (acc : List ℕ) → list_all is_letter_or_digit acc ≡ true → list_all is_letter_or_digit (digits_onto k 10 false n acc) ≡ true
digits_all zero n acc p = p
digits_all (suc k) n acc p =
    let g = digit_glyph false (n % 10) in
    let more : list_all is_letter_or_digit (g ∷ acc) ≡ true = both _ _ (digit_letter (n % 10) (omega arith)) p in
    either_all (n / 10 == 0) (g ∷ acc) (digits_onto k 10 false (n / 10) (g ∷ acc)) more (digits_all k (n / 10) (g ∷ acc) more)

pub decimal_closed : (n : ℕ) → is_closed false (decimal n) ≡ true
unfolding digits
decimal_closed n = letters_closed (decimal n) (digits_all 64 n [] refl)

-- ---- lists of words

abbrev pub AllClosed : List (List ℕ) → Type 0
AllClosed ws = list_all (is_closed false) ws ≡ true

pub names_closed : (ns : List (List ℕ)) → AllByRecursion IsName ns → AllClosed ns
names_closed [] h = refl
names_closed (n ∷ ns) h = both _ _ (name_closed n h.0) (names_closed ns h.1)

closed_by-closed : (end : List ℕ) (ws : List (List ℕ)) → is_closed false end ≡ true → AllClosed ws → AllClosed (closed_by end ws)
closed_by-closed end [] e h = refl
closed_by-closed end (w ∷ []) e h = both _ _ (closed_append false w end (and_parts _ _ h).0 e) refl
closed_by-closed end (w ∷ v ∷ ws) e h = let parts = and_parts (is_closed false w) (list_all (is_closed false) (v ∷ ws)) h in both _ _ parts.0 (closed_by-closed end (v ∷ ws) e parts.1)

commas-closed : (ws : List (List ℕ)) → AllClosed ws → AllClosed (with_commas ws)
commas-closed [] h = refl
commas-closed (w ∷ []) h = h
commas-closed (w ∷ v ∷ ws) h =
    let parts = and_parts (is_closed false w) (list_all (is_closed false) (v ∷ ws)) h in
    both _ _ (closed_append false w (44 ∷ []) parts.0 refl) (commas-closed (v ∷ ws) parts.1)

opened-closed : (ws : List (List ℕ)) → AllClosed ws → AllClosed (opened ws)
opened-closed [] h = refl
opened-closed (w ∷ ws) h = h

kind_closed : (k : Kind) (end : List ℕ) → is_closed false end ≡ true → is_closed false (kind_word k ++ end) ≡ true
kind_closed kind.Int end e = closed_append false (codes "int") end refl e
kind_closed kind.Text end e = closed_append false (codes "text") end refl e

kind_alone : (k : Kind) → is_closed false (kind_word k) ≡ true
kind_alone kind.Int = refl
kind_alone kind.Text = refl

columns-closed : (cs : List Column) → AllByRecursion IsName (column_names cs) → AllClosed (column_words cs)
columns-closed [] h = refl
columns-closed (c ∷ []) h = both _ _ (name_closed c.name h.0) (both _ _ (kind_alone c.kind) refl)
columns-closed (c ∷ d ∷ cs) h = both _ _ (name_closed c.name h.0) (both _ _ (kind_closed c.kind (44 ∷ []) refl) (columns-closed (d ∷ cs) h.1))

appended : (xs ys : List (List ℕ)) → AllClosed xs → AllClosed ys → AllClosed (xs ++ ys)
appended xs ys p q = list_all-append (is_closed false) xs ys ∙ both _ _ p q

-- names with commas and a parenthesis before them
in_parens : (end : List ℕ) (ns : List (List ℕ)) → is_closed false end ≡ true → AllClosed ns → AllClosed (opened (closed_by end (with_commas ns)))
in_parens end ns e h = opened-closed (closed_by end (with_commas ns)) (closed_by-closed end (with_commas ns) e (commas-closed ns h))

pub definition_closed : (d : Definition) → IsWellNamed d → are_closed (definition_words d) ≡ true
definition_closed (Attribute name k) h = both _ _ (name_closed name h) (both _ _ (kind_closed k (codes ";") refl) refl)
definition_closed (Relation name columns) h =
    let ws = column_words columns in
    both _ _ (name_closed name h.0) (opened-closed (closed_by (codes ");") ws) (closed_by-closed (codes ");") ws refl (columns-closed columns (recursion_from_All IsName (column_names columns) h.1.named))))
definition_closed (Object name relation pairs) h =
    let firsts = map (λ p. p.attribute) pairs in
    let seconds = map (λ p. p.column) pairs in
    let left = in_parens (codes ")") firsts refl (names_closed firsts (recursion_from_All IsName firsts h.2.named)) in
    let right = in_parens (codes ");") seconds refl (names_closed seconds (recursion_from_All IsName seconds h.3.named)) in
    both _ _ (name_closed name h.0) (appended (opened (closed_by (codes ")") (with_commas firsts))) _ left (both _ _ (name_closed relation h.1) right))
definition_closed (Fd left right) h =
    let l = commas-closed left (names_closed left (recursion_from_All IsName left h.0.named)) in
    let r = closed_by-closed (codes ";") (with_commas right) refl (commas-closed right (names_closed right (recursion_from_All IsName right h.1.named))) in
    appended (with_commas left) _ l r
definition_closed (Maximal objects) h = in_parens (codes ");") objects refl (names_closed objects (recursion_from_All IsName objects h.named))

-- the name with a number, or nothing
pub name_at-closed : (names : List (List ℕ)) (k : ℕ) → AllClosed names → is_closed false (name_at names k) ≡ true
name_at-closed [] k h = refl
name_at-closed (n ∷ ns) zero h = (and_parts (is_closed false n) (list_all (is_closed false) ns) h).0
name_at-closed (n ∷ ns) (suc k) h = name_at-closed ns k (and_parts (is_closed false n) (list_all (is_closed false) ns) h).1

pub names_at-closed : (names : List (List ℕ)) (ks : List ℕ) → AllClosed names → AllClosed (map (name_at names) ks)
names_at-closed names [] h = refl
names_at-closed names (k ∷ ks) h = both _ _ (name_at-closed names k h) (names_at-closed names ks h)
