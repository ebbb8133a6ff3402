-- The symbols of a definition: words and signs, whose bytes neither end a statement nor hide its end.
use Rattle.std.proofs.Common.{◌≡◌, ℕ, true, false, List, [], ◌∷◌, ◌++◌, ◌||◌, ◌==◌, map, refl, sym, arith, subst, codes, append_assoc}
use Rattle.std.specs.List.{AllByRecursion, list_all}
use Rattle.std.proofs.lemmas.Bool.Decides.{nat_tests}
use Rattle.std.proofs.lemmas.List.Sums.{AllPass-from_list_all}
use Rattle.su_base.specs.Name.{IsName, AreNames, IsWord, is_letter_or_digit}
use Rattle.su_base.proofs.Items.{AllByRecursion-append}
use Rattle.su_base.specs.declared.values.Kind.{Kind}
use Rattle.su_base.specs.declared.values.Kind.TheVariants as kind
use Rattle.su_base.specs.declared.values.Column.{Column}
use Rattle.su_lex.specs.Blanks.{begins_comment}
use Rattle.su_lex.specs.Pieces.{is_plain, Parts}
use Rattle.su_lex.specs.Pieces as p
use Rattle.su_lex.specs.declared.meaning.Symbol.{Symbol}
use Rattle.su_lex.specs.declared.meaning.Symbol.TheVariants.{Word, Int, Text, Sign}
use Rattle.su_lex.specs.declared.signs.Sign.TheVariants as sign
use Rattle.su_lex.specs.Names.{names_symbols}
use Rattle.su_lex.specs.Symbols.{IsSymbol}
use Rattle.su_lex.specs.Spelling.{spelled, opens, closes, after, spaced}
use Rattle.su_lex.proofs.Cuts.{parts_trans}
use Rattle.su_lex.proofs.Fronts.{word_all}
use Rattle.su_lex.proofs.Listed.{each_name, more_names}
use Rattle.su_schema.specs.declared.definitions.Definition.{Definition}
use Rattle.su_schema.specs.declared.definitions.Definition.TheVariants.{Attribute, Relation, Object, Fd, Maximal}
use Rattle.su_schema.specs.WellNamed.{IsWellNamed}
use Rattle.su_schema.specs.Entries.{column_names}
use Rattle.su_lex.specs.Wordings.{kind_symbol}
use Rattle.su_ddl.specs.Grammar.{columns_symbols, in_parens, definition_symbols}
use Rattle.su_ddl.proofs.NameLists.{more_columns}

-- a word or a sign
abbrev pub IsQuiet : Symbol → Type 0
IsQuiet (Word w) = IsWord w
IsQuiet (Int n) = ⊥
IsQuiet (Text t) = ⊥
IsQuiet (Sign s) = Unit {0}

quiet_symbol : (x : Symbol) → IsQuiet x → IsSymbol x
quiet_symbol (Word w) q = q
quiet_symbol (Int n) q = absurd q
quiet_symbol (Text t) q = absurd q
quiet_symbol (Sign s) q = tt

pub quiet_symbols : (xs : List Symbol) → AllByRecursion IsQuiet xs → AllByRecursion IsSymbol xs
quiet_symbols [] qs = tt
quiet_symbols (x ∷ xs) qs = (quiet_symbol x qs.0, quiet_symbols xs qs.1)

-- ---- the symbols of a well-named definition are quiet

kind_quiet : (k : Kind) → IsQuiet (kind_symbol k)
kind_quiet kind.Int = (refl, AllPass-from_list_all is_letter_or_digit (110 ∷ 116 ∷ []) refl, omega arith)
kind_quiet kind.Text = (refl, AllPass-from_list_all is_letter_or_digit (101 ∷ 120 ∷ 116 ∷ []) refl, omega arith)

more_quiet : (names : List (List ℕ)) → AllByRecursion IsName names → AllByRecursion IsQuiet (more_names names)
more_quiet [] all = tt
more_quiet (n ∷ ns) all = (tt, (all.0.0, more_quiet ns all.1))

names_quiet : (names : List (List ℕ)) → AreNames names → AllByRecursion IsQuiet (names_symbols names)
names_quiet [] are = tt
names_quiet (n ∷ ns) are = let all = each_name (n ∷ ns) are in (all.0.0, more_quiet ns all.1)

parens_quiet : (names : List (List ℕ)) (behind : List Symbol) → AreNames names → AllByRecursion IsQuiet behind → AllByRecursion IsQuiet (in_parens names behind)
parens_quiet names behind are qs = (tt, AllByRecursion-append IsQuiet (names_symbols names) (Sign sign.Close ∷ behind) (names_quiet names are) (tt, qs))

more_columns_quiet : (cs : List Column) → AllByRecursion IsName (column_names cs) → AllByRecursion IsQuiet (more_columns cs)
more_columns_quiet [] all = tt
more_columns_quiet (c ∷ cs) all = (tt, (all.0.0, (kind_quiet c.kind, more_columns_quiet cs all.1)))

columns_quiet : (cs : List Column) → AreNames (column_names cs) → AllByRecursion IsQuiet (columns_symbols cs)
columns_quiet [] are = tt
columns_quiet (c ∷ cs) are = let all = each_name (column_names (c ∷ cs)) are in (all.0.0, (kind_quiet c.kind, more_columns_quiet cs all.1))

attribute_word : IsWord (codes "attribute")
attribute_word = (refl, AllPass-from_list_all is_letter_or_digit (116 ∷ 116 ∷ 114 ∷ 105 ∷ 98 ∷ 117 ∷ 116 ∷ 101 ∷ []) refl, omega arith)

relation_word : IsWord (codes "relation")
relation_word = (refl, AllPass-from_list_all is_letter_or_digit (101 ∷ 108 ∷ 97 ∷ 116 ∷ 105 ∷ 111 ∷ 110 ∷ []) refl, omega arith)

object_word : IsWord (codes "object")
object_word = (refl, AllPass-from_list_all is_letter_or_digit (98 ∷ 106 ∷ 101 ∷ 99 ∷ 116 ∷ []) refl, omega arith)

from_word : IsWord (codes "from")
from_word = (refl, AllPass-from_list_all is_letter_or_digit (114 ∷ 111 ∷ 109 ∷ []) refl, omega arith)

fd_word : IsWord (codes "fd")
fd_word = (refl, AllPass-from_list_all is_letter_or_digit (100 ∷ []) refl, omega arith)

maximal_word : IsWord (codes "maximal")
maximal_word = (refl, AllPass-from_list_all is_letter_or_digit (97 ∷ 120 ∷ 105 ∷ 109 ∷ 97 ∷ 108 ∷ []) refl, omega arith)

pub definition_quiet : (d : Definition) → IsWellNamed d → AllByRecursion IsQuiet (definition_symbols d)
definition_quiet (Attribute name kind) w = (attribute_word, (w.0, (kind_quiet kind, tt)))
definition_quiet (Relation name columns) w =
    (relation_word, (w.0.0, (tt, AllByRecursion-append IsQuiet (columns_symbols columns) (Sign sign.Close ∷ []) (columns_quiet columns w.1) (tt, tt))))
definition_quiet (Object name relation pairs) w =
    let columns = parens_quiet (map (λ p. p.column) pairs) [] w.3 tt in
    (object_word, (w.0.0, parens_quiet (map (λ p. p.attribute) pairs) _ w.2 (from_word, (w.1.0, columns))))
definition_quiet (Fd left right) w =
    (fd_word, AllByRecursion-append IsQuiet (names_symbols left) (Sign sign.Arrow ∷ names_symbols right) (names_quiet left w.0) (tt, names_quiet right w.1))
definition_quiet (Maximal objects) w = (maximal_word, parens_quiet objects [] w tt)

-- ---- what is quiet is made of parts

word_parts : (w r : List ℕ) → list_all is_letter_or_digit w ≡ true → Parts (w ++ r) r
word_parts [] r all = p.none r r refl
word_parts (b ∷ bs) r all =
    let d : is_letter_or_digit b ≡ true = grind (arith, all) in
    let rest : list_all is_letter_or_digit bs ≡ true = grind (arith, all, d) in
    let plain : is_plain b ≡ true = grind (arith, nat_tests, d) in
    let dash : (b == 45) ≡ false = grind (arith, nat_tests, d) in
    p.more (b ∷ bs ++ r) (bs ++ r) r (p.byte b (b ∷ bs ++ r) (bs ++ r) refl plain (rw dash refl)) (word_parts bs r rest)

one_byte : (b : ℕ) (r : List ℕ) → is_plain b ≡ true → begins_comment (b ∷ r) ≡ false → Parts (b ∷ r) r
one_byte b r plain calm = p.more (b ∷ r) r r (p.byte b (b ∷ r) r refl plain calm) (p.none r r refl)

two_bytes : (b c : ℕ) (r : List ℕ) → is_plain b ≡ true → begins_comment (b ∷ c ∷ r) ≡ false → is_plain c ≡ true → begins_comment (c ∷ r) ≡ false → Parts (b ∷ c ∷ r) r
two_bytes b c r plain calm plain' calm' = p.more (b ∷ c ∷ r) (c ∷ r) r (p.byte b (b ∷ c ∷ r) (c ∷ r) refl plain calm) (one_byte c r plain' calm')

spelled_parts : (x : Symbol) (r : List ℕ) → IsQuiet x → Parts (spelled x ++ r) r
spelled_parts (Word w) r q = word_parts w r (word_all w q)
spelled_parts (Int n) r q = absurd q
spelled_parts (Text t) r q = absurd q
spelled_parts (Sign sign.Open) r q = one_byte 40 r refl refl
spelled_parts (Sign sign.Close) r q = one_byte 41 r refl refl
spelled_parts (Sign sign.Comma) r q = one_byte 44 r refl refl
spelled_parts (Sign sign.Dot) r q = one_byte 46 r refl refl
spelled_parts (Sign sign.Arrow) r q = two_bytes 45 62 r refl refl refl refl
spelled_parts (Sign sign.Equal) r q = one_byte 61 r refl refl
spelled_parts (Sign sign.NotEqual) r q = two_bytes 33 61 r refl refl refl refl
spelled_parts (Sign sign.Less) r q = one_byte 60 r refl refl
spelled_parts (Sign sign.LessEqual) r q = two_bytes 60 61 r refl refl refl refl
spelled_parts (Sign sign.Greater) r q = one_byte 62 r refl refl
spelled_parts (Sign sign.GreaterEqual) r q = two_bytes 62 61 r refl refl refl refl

-- a symbol, and symbols that are written behind it
two_parts : (x y r : List ℕ) → Parts (x ++ (y ++ r)) (y ++ r) → Parts (y ++ r) r → Parts ((x ++ y) ++ r) r
two_parts x y r a c = subst (λ (v : List ℕ). Parts v r) (sym (append_assoc x y r)) (parts_trans (x ++ (y ++ r)) (y ++ r) r a c)

after_parts : (x : Symbol) (xs : List Symbol) (r : List ℕ) → AllByRecursion IsQuiet xs → Parts (after x xs ++ r) r
after_parts x [] r qs = p.none r r refl
after_parts x (y ∷ ys) r qs =
    let next : Parts ((spelled y ++ after y ys) ++ r) r = two_parts (spelled y) (after y ys) r (spelled_parts y (after y ys ++ r) qs.0) (after_parts y ys r qs.1) in
    elim (opens x || closes y) as (λ v. (opens x || closes y) ≡ v → Parts (after x (y ∷ ys) ++ r) r) [
      | true ↦ λ e. rw e next
      | false ↦ λ e. rw e (parts_trans _ _ r (one_byte 32 ((spelled y ++ after y ys) ++ r) refl refl) next)
    ] refl

pub spaced_parts : (xs : List Symbol) (r : List ℕ) → AllByRecursion IsQuiet xs → Parts (spaced xs ++ r) r
spaced_parts [] r qs = p.none r r refl
spaced_parts (x ∷ xs) r qs = two_parts (spelled x) (after x xs) r (spelled_parts x (after x xs ++ r) qs.0) (after_parts x xs r qs.1)
