-- The line of a definition is made of its words.
-- The idea: behind a name all symbols are written alike, so a list of names is written as its words with commas, whatever follows.
use Rattle.std.proofs.Common.{◌≡◌, ℕ, List, [], ◌∷◌, ◌++◌, flat_map, map, refl, sym, ap, ◌∙◌, append_assoc, append-nil}
use Rattle.std.specs.Prelude.{codes}
use Rattle.su_base.specs.declared.values.Kind.{Kind}
use Rattle.su_base.specs.declared.values.Kind.TheVariants as kind
use Rattle.su_base.specs.declared.values.Column.{Column}
use Rattle.su_lex.specs.declared.meaning.Symbol.{Symbol}
use Rattle.su_lex.specs.declared.meaning.Symbol.TheVariants.{Word, Sign}
use Rattle.su_lex.specs.declared.signs.Sign.TheVariants as sign
use Rattle.su_lex.specs.Spelling.{spelled, after}
use Rattle.su_lex.specs.Wordings.{kind_symbol}
use Rattle.su_schema.specs.declared.definitions.Pair.{Pair}
use Rattle.su_schema.specs.declared.definitions.Definition.TheVariants.{Attribute, Relation, Object, Fd, Maximal}
use Rattle.su_ddl.specs.Grammar.{column_symbols, in_parens}
use Rattle.su_ddl.specs.Shown.{line_of}
use Rattle.su_explained.specs.Pieces.{line_text}
use Rattle.su_readback.specs.Schemas.{kind_word, closed_by, with_commas, opened, column_words, definition_words}

-- ---- words with blanks between them

abbrev pub blanks : List (List ℕ) → List ℕ
blanks ws = flat_map (λ w. (32 ∷ []) ++ w) ws

abbrev pub joined : List (List ℕ) → List ℕ
joined [] = []
joined (w ∷ ws) = w ++ blanks ws

blanks-append : (xs ys : List (List ℕ)) → blanks (xs ++ ys) ≡ blanks xs ++ blanks ys
blanks-append [] ys = refl
blanks-append (x ∷ xs) ys = ap (λ t. 32 ∷ (x ++ t)) (blanks-append xs ys) ∙ ap (λ t. 32 ∷ t) (sym (append_assoc x (blanks xs) (blanks ys)))

blanks-closed_by : (end v : List ℕ) (vs : List (List ℕ)) → blanks (closed_by end (v ∷ vs)) ≡ 32 ∷ joined (closed_by end (v ∷ vs))
blanks-closed_by end v [] = refl
blanks-closed_by end v (u ∷ us) = refl

joined-closed_by : (end w : List ℕ) (ws : List (List ℕ)) → joined (closed_by end (w ∷ ws)) ≡ joined (w ∷ ws) ++ end
joined-closed_by end w [] = append-nil (w ++ end) ∙ ap (λ t. t ++ end) (sym (append-nil w))
joined-closed_by end w (v ∷ vs) = ap (λ t. w ++ t) (blanks-closed_by end v vs ∙ ap (λ t. 32 ∷ t) (joined-closed_by end v vs)) ∙ sym (append_assoc w (32 ∷ joined (v ∷ vs)) end)

blanks-opened : (end w : List ℕ) (ws : List (List ℕ)) → blanks (opened (closed_by end (w ∷ ws))) ≡ 32 ∷ 40 ∷ joined (closed_by end (w ∷ ws))
blanks-opened end w [] = refl
blanks-opened end w (v ∷ vs) = refl

blanks-with_commas : (m : List ℕ) (ms : List (List ℕ)) → blanks (with_commas (m ∷ ms)) ≡ 32 ∷ joined (with_commas (m ∷ ms))
blanks-with_commas m [] = refl
blanks-with_commas m (k ∷ ks) = refl

-- a list is of some words
pub is_list : (P : List (List ℕ) → Type 0) → ((w : List ℕ) (ws : List (List ℕ)) → P (w ∷ ws)) → (n : List ℕ) (ns : List (List ℕ)) → P (with_commas (n ∷ ns))
is_list P f n [] = f n []
is_list P f n (m ∷ ms) = f (n ++ 44 ∷ []) (with_commas (m ∷ ms))

-- ---- symbols behind a word

after_word : (a b : List ℕ) (z : List Symbol) → after (Word a) z ≡ after (Word b) z
after_word a b [] = refl
after_word a b (y ∷ ys) = refl

after_kind : (k : Kind) (b : List ℕ) (z : List Symbol) → spelled (kind_symbol k) ++ after (kind_symbol k) z ≡ kind_word k ++ after (Word b) z
after_kind kind.Int b z = ap (λ t. codes "int" ++ t) (after_word (codes "int") b z)
after_kind kind.Text b z = ap (λ t. codes "text" ++ t) (after_word (codes "text") b z)

-- names behind the first one, each behind a comma
abbrev more_names : List (List ℕ) → List Symbol
more_names ns = flat_map (λ y. (Sign sign.Comma ∷ []) ++ y) (map (λ name. Word name ∷ []) ns)

list_text : (n : List ℕ) (ns : List (List ℕ)) (z : List Symbol) → n ++ after (Word n) (more_names ns ++ z) ≡ joined (with_commas (n ∷ ns)) ++ after (Word n) z
list_text n [] z = ap (λ t. t ++ after (Word n) z) (sym (append-nil n))
list_text n (m ∷ ms) z =
    ap (λ t. n ++ 44 ∷ 32 ∷ t) (list_text m ms z ∙ ap (λ t. joined (with_commas (m ∷ ms)) ++ t) (after_word m n z))
    ∙ sym (append_assoc n (44 ∷ 32 ∷ joined (with_commas (m ∷ ms))) (after (Word n) z))
    ∙ ap (λ t. t ++ after (Word n) z) (sym (append_assoc n (44 ∷ []) (32 ∷ joined (with_commas (m ∷ ms)))) ∙ ap (λ t. (n ++ 44 ∷ []) ++ t) (sym (blanks-with_commas m ms)))

-- names in parentheses, and what follows
parens_text : (x n : List ℕ) (ns : List (List ℕ)) (z : List Symbol) → after (Word x) (in_parens (n ∷ ns) z) ≡ 32 ∷ 40 ∷ (joined (with_commas (n ∷ ns)) ++ 41 ∷ after (Sign sign.Close) z)
parens_text x n ns z = ap (λ t. 32 ∷ 40 ∷ t) (list_text n ns (Sign sign.Close ∷ z))

-- columns behind the first one
abbrev more_columns : List Column → List Symbol
more_columns cs = flat_map (λ y. (Sign sign.Comma ∷ []) ++ y) (map column_symbols cs)

blanks-column_words : (c : Column) (cs : List Column) → blanks (column_words (c ∷ cs)) ≡ 32 ∷ joined (column_words (c ∷ cs))
blanks-column_words c [] = refl
blanks-column_words c (d ∷ ds) = refl

after_name : (name : List ℕ) (k : Kind) (z : List Symbol) → name ++ after (Word name) (kind_symbol k ∷ z) ≡ name ++ 32 ∷ (spelled (kind_symbol k) ++ after (kind_symbol k) z)
after_name name kind.Int z = refl
after_name name kind.Text z = refl

regroup : (a b r e : List ℕ) → a ++ 32 ∷ (b ++ 44 ∷ 32 ∷ (r ++ e)) ≡ (a ++ 32 ∷ ((b ++ 44 ∷ []) ++ 32 ∷ r)) ++ e
regroup a b r e = simp append_assoc

columns_text : (c : Column) (cs : List Column) (z : List Symbol)
    → c.name ++ 32 ∷ (spelled (kind_symbol c.kind) ++ after (kind_symbol c.kind) (more_columns cs ++ z)) ≡ joined (column_words (c ∷ cs)) ++ after (Word []) z
columns_text c [] z =
    ap (λ t. c.name ++ 32 ∷ t) (after_kind c.kind [] z)
    ∙ sym (append_assoc c.name (32 ∷ kind_word c.kind) (after (Word []) z)) ∙ ap (λ t. (c.name ++ 32 ∷ t) ++ after (Word []) z) (sym (append-nil (kind_word c.kind)))
columns_text c (d ∷ ds) z =
    let k = kind_word c.kind in
    let rest = joined (column_words (d ∷ ds)) in
    let end = after (Word []) z in
    let more : List Symbol = Word d.name ∷ kind_symbol d.kind ∷ (more_columns ds ++ z) in
    ap (λ t. c.name ++ 32 ∷ t) (after_kind c.kind [] (Sign sign.Comma ∷ more) ∙ ap (λ t. k ++ 44 ∷ 32 ∷ t) (after_name d.name d.kind (more_columns ds ++ z) ∙ columns_text d ds z))
    ∙ regroup c.name k rest end
    ∙ ap (λ t. (c.name ++ 32 ∷ ((k ++ 44 ∷ []) ++ t)) ++ end) (sym (blanks-column_words d ds))

-- ---- definitions

-- the words of lists that are closed
closed_names : (end n : List ℕ) (ns : List (List ℕ)) → joined (closed_by end (with_commas (n ∷ ns))) ≡ joined (with_commas (n ∷ ns)) ++ end
closed_names end n ns = is_list (λ ws. joined (closed_by end ws) ≡ joined ws ++ end) (joined-closed_by end) n ns

opened_names : (end n : List ℕ) (ns : List (List ℕ)) → blanks (opened (closed_by end (with_commas (n ∷ ns)))) ≡ 32 ∷ 40 ∷ (joined (with_commas (n ∷ ns)) ++ end)
opened_names end n ns = is_list (λ ws. blanks (opened (closed_by end ws)) ≡ 32 ∷ 40 ∷ joined (closed_by end ws)) (blanks-opened end) n ns ∙ ap (λ t. 32 ∷ 40 ∷ t) (closed_names end n ns)

is_columns : (P : List (List ℕ) → Type 0) → ((w : List ℕ) (ws : List (List ℕ)) → P (w ∷ ws)) → (c : Column) (cs : List Column) → P (column_words (c ∷ cs))
is_columns P f c [] = f c.name (kind_word c.kind ∷ [])
is_columns P f c (d ∷ ds) = f c.name ((kind_word c.kind ++ 44 ∷ []) ∷ column_words (d ∷ ds))

opened_columns : (end : List ℕ) (c : Column) (cs : List Column) → blanks (opened (closed_by end (column_words (c ∷ cs)))) ≡ 32 ∷ 40 ∷ (joined (column_words (c ∷ cs)) ++ end)
opened_columns end c cs =
    is_columns (λ ws. blanks (opened (closed_by end ws)) ≡ 32 ∷ 40 ∷ joined (closed_by end ws)) (blanks-opened end) c cs
    ∙ ap (λ t. 32 ∷ 40 ∷ t) (is_columns (λ ws. joined (closed_by end ws) ≡ joined ws ++ end) (joined-closed_by end) c cs)

-- a line of a word and others is that text
line_from : (w text : List ℕ) (ws : List (List ℕ)) → text ≡ (w ++ blanks ws) ++ 10 ∷ [] → text ≡ line_text (w ∷ ws)
line_from w text ws e = e

closing : (a b : List ℕ) → (a ++ b) ++ 59 ∷ 10 ∷ [] ≡ (a ++ (b ++ 59 ∷ [])) ++ 10 ∷ []
closing a b = simp append_assoc

kind_line : (name k : List ℕ) → (name ++ (32 ∷ (k ++ []))) ++ 59 ∷ 10 ∷ [] ≡ (name ++ ((32 ∷ (k ++ 59 ∷ [])) ++ [])) ++ 10 ∷ []
kind_line name k = simp (append_assoc, append-nil)

pub attribute_line : (name : List ℕ) (k : Kind) → line_of (Attribute name k) ≡ line_text (definition_words (Attribute name k))
attribute_line name kind.Int = ap (λ t. codes "attribute" ++ 32 ∷ t) (kind_line name (codes "int"))
attribute_line name kind.Text = ap (λ t. codes "attribute" ++ 32 ∷ t) (kind_line name (codes "text"))

parens_line : (name j : List ℕ) → (name ++ 32 ∷ 40 ∷ (j ++ 41 ∷ [])) ++ 59 ∷ 10 ∷ [] ≡ (name ++ 32 ∷ 40 ∷ (j ++ codes ");")) ++ 10 ∷ []
parens_line name j = simp append_assoc

pub relation_line : (name : List ℕ) (c : Column) (cs : List Column) → line_of (Relation name (c ∷ cs)) ≡ line_text (definition_words (Relation name (c ∷ cs)))
relation_line name c cs =
    let j = joined (column_words (c ∷ cs)) in
    ap (λ t. codes "relation" ++ 32 ∷ ((name ++ 32 ∷ 40 ∷ t) ++ 59 ∷ 10 ∷ [])) (after_name c.name c.kind (more_columns cs ++ Sign sign.Close ∷ []) ∙ columns_text c cs (Sign sign.Close ∷ []))
    ∙ ap (λ t. codes "relation" ++ 32 ∷ t) (parens_line name j)
    ∙ ap (λ t. codes "relation" ++ 32 ∷ ((name ++ t) ++ 10 ∷ [])) (sym (opened_columns (codes ");") c cs))

pub fd_line : (n : List ℕ) (ns : List (List ℕ)) (m : List ℕ) (ms : List (List ℕ)) → line_of (Fd (n ∷ ns) (m ∷ ms)) ≡ line_text (definition_words (Fd (n ∷ ns) (m ∷ ms)))
fd_line n ns m ms =
    let left = joined (with_commas (n ∷ ns)) in
    let right = joined (with_commas (m ∷ ms)) in
    let behind : List Symbol = Sign sign.Arrow ∷ (Word m ∷ more_names ms) in
    ap (λ t. codes "fd" ++ 32 ∷ (t ++ 59 ∷ 10 ∷ [])) (list_text n ns behind)
    ∙ ap (λ t. codes "fd" ++ 32 ∷ ((left ++ 32 ∷ 45 ∷ 62 ∷ 32 ∷ t) ++ 59 ∷ 10 ∷ [])) (ap (λ z. m ++ after (Word m) z) (sym (append-nil (more_names ms))) ∙ list_text m ms [] ∙ append-nil right)
    ∙ ap (λ t. codes "fd" ++ t) (sides left right)
    ∙ ap (λ t. codes "fd" ++ ((32 ∷ left) ++ 32 ∷ 45 ∷ 62 ∷ 32 ∷ t) ++ 10 ∷ []) (sym (closed_names (59 ∷ []) m ms))
    ∙ ap (λ t. codes "fd" ++ (t ++ 10 ∷ [])) (both n ns m ms)
  where
    sides : (left right : List ℕ) → 32 ∷ ((left ++ 32 ∷ 45 ∷ 62 ∷ 32 ∷ right) ++ 59 ∷ 10 ∷ []) ≡ ((32 ∷ left) ++ 32 ∷ 45 ∷ 62 ∷ 32 ∷ (right ++ 59 ∷ [])) ++ 10 ∷ []
    sides left right = simp append_assoc

    both : (n : List ℕ) (ns : List (List ℕ)) (m : List ℕ) (ms : List (List ℕ))
        → (32 ∷ joined (with_commas (n ∷ ns))) ++ 32 ∷ 45 ∷ 62 ∷ 32 ∷ joined (closed_by (59 ∷ []) (with_commas (m ∷ ms))) ≡ blanks (with_commas (n ∷ ns) ++ codes "->" ∷ closed_by (codes ";") (with_commas (m ∷ ms)))
    both n ns m ms =
        let right = closed_by (59 ∷ []) (with_commas (m ∷ ms)) in
        ap (λ t. (32 ∷ joined (with_commas (n ∷ ns))) ++ 32 ∷ 45 ∷ 62 ∷ t) (sym (is_list (λ ws. blanks (closed_by (59 ∷ []) ws) ≡ 32 ∷ joined (closed_by (59 ∷ []) ws)) (blanks-closed_by (59 ∷ [])) m ms))
        ∙ ap (λ t. t ++ blanks (codes "->" ∷ right)) (sym (blanks-with_commas n ns)) ∙ sym (blanks-append (with_commas (n ∷ ns)) (codes "->" ∷ right))

pub maximal_definition_line : (n : List ℕ) (ns : List (List ℕ)) → line_of (Maximal (n ∷ ns)) ≡ line_text (definition_words (Maximal (n ∷ ns)))
maximal_definition_line n ns =
    ap (λ t. codes "maximal" ++ (t ++ 59 ∷ 10 ∷ [])) (parens_text (codes "maximal") n ns [])
    ∙ ap (λ t. codes "maximal" ++ t) (parens_line [] (joined (with_commas (n ∷ ns))))
    ∙ ap (λ t. codes "maximal" ++ (t ++ 10 ∷ [])) (sym (opened_names (codes ");") n ns))

pub object_line : (name relation : List ℕ) (p : Pair) (ps : List Pair) → line_of (Object name relation (p ∷ ps)) ≡ line_text (definition_words (Object name relation (p ∷ ps)))
object_line name relation p ps =
    let firsts = map (λ (q : Pair). q.attribute) ps in
    let seconds = map (λ (q : Pair). q.column) ps in
    let left = joined (with_commas (p.attribute ∷ firsts)) in
    let right = joined (with_commas (p.column ∷ seconds)) in
    let first = opened (closed_by (codes ")") (with_commas (p.attribute ∷ firsts))) in
    let second = opened (closed_by (codes ");") (with_commas (p.column ∷ seconds))) in
    let from : List Symbol = Word (codes "from") ∷ Word relation ∷ in_parens (p.column ∷ seconds) [] in
    ap (λ t. codes "object" ++ 32 ∷ ((name ++ t) ++ 59 ∷ 10 ∷ [])) (parens_text name p.attribute firsts from)
    ∙ ap (λ t. codes "object" ++ 32 ∷ ((name ++ 32 ∷ 40 ∷ (left ++ 41 ∷ 32 ∷ (codes "from" ++ 32 ∷ (relation ++ t)))) ++ 59 ∷ 10 ∷ [])) (parens_text relation p.column seconds [])
    ∙ ap (λ t. codes "object" ++ 32 ∷ t) (whole name left relation right)
    ∙ ap (λ t. codes "object" ++ 32 ∷ ((name ++ (t ++ 32 ∷ (codes "from" ++ ((32 ∷ relation) ++ 32 ∷ 40 ∷ (right ++ codes ");"))))) ++ 10 ∷ [])) (sym (opened_names (codes ")") p.attribute firsts))
    ∙ ap (λ t. codes "object" ++ 32 ∷ ((name ++ (blanks first ++ 32 ∷ (codes "from" ++ ((32 ∷ relation) ++ t)))) ++ 10 ∷ [])) (sym (opened_names (codes ");") p.column seconds))
    ∙ ap (λ t. codes "object" ++ 32 ∷ ((name ++ t) ++ 10 ∷ [])) (sym (blanks-append first (codes "from" ∷ relation ∷ second)))
  where
    whole : (name left relation right : List ℕ) → (name ++ 32 ∷ 40 ∷ (left ++ 41 ∷ 32 ∷ (codes "from" ++ 32 ∷ (relation ++ 32 ∷ 40 ∷ (right ++ 41 ∷ []))))) ++ 59 ∷ 10 ∷ []
        ≡ (name ++ ((32 ∷ 40 ∷ (left ++ codes ")")) ++ 32 ∷ (codes "from" ++ ((32 ∷ relation) ++ 32 ∷ 40 ∷ (right ++ codes ");"))))) ++ 10 ∷ []
    whole name left relation right = simp append_assoc
