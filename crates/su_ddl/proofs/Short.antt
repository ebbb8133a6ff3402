-- The text of a valid schema is short enough to be read.
use Rattle.std.proofs.Common.{◌≡◌, ◌<◌, ◌≤◌, ◌+◌, ◌*◌, ◌^◌, ℕ, true, false, ◌||◌, List, [], ◌∷◌, ◌++◌, length, length-append, map, filter, Option, Some, None, refl, ap, ◌∙◌, suc, codes, arith}
use lib.ListN.{length-map}
use Rattle.std.specs.List.{AllByRecursion, range_with_len, filter_map, cons_option}
use Rattle.std.specs.Ordering.{nat_cmp}
use Rattle.std.specs.FinSet.{FinSet, contains}
use Rattle.std.proofs.lemmas.List.Elements.{recursion_from_All}
use Rattle.su_base.specs.Name.{IsWord}
use Rattle.su_base.proofs.Items.{AllByRecursion-append, AllByRecursion-map, AllByRecursion-weaker, length-filter}
use Rattle.su_base.specs.declared.values.Column.{Column}
use Rattle.std.proofs.lemmas.List.FromFn.{length-range_with_len}
use Rattle.su_fd.specs.declared.Fd.{Fd as Dependency}
use Rattle.su_lex.specs.declared.meaning.Symbol.{Symbol}
use Rattle.su_lex.specs.declared.meaning.Symbol.TheVariants.{Word, Int, Text, Sign}
use Rattle.su_lex.specs.declared.signs.Sign.{Sign as ASign}
use Rattle.su_lex.specs.declared.signs.Sign.TheVariants as sign
use Rattle.su_lex.specs.Names.{names_symbols}
use Rattle.su_lex.proofs.Listed.{more_names}
use Rattle.su_lex.specs.Spelling.{spelled, opens, closes, after, spaced}
use Rattle.su_lex.specs.TokenForms.{sign_bytes}
use Rattle.su_schema.specs.declared.definitions.Pair.{Pair}
use Rattle.su_schema.specs.declared.definitions.Definition.{Definition}
use Rattle.su_schema.specs.declared.definitions.Definition.TheVariants.{Object}
use Rattle.su_schema.specs.SchemaValue.{SchemaValue, AttributeEntry, RelationEntry, ObjectEntry}
use Rattle.su_schema.specs.Valid.{IsValid, IsRelationEntry}
use Rattle.su_schema.specs.Entries.{attribute_names, object_names}
use Rattle.su_schema.specs.WellNamed.{IsWellNamed}
use Rattle.su_ddl.proofs.NameLists.{more_columns}
use Rattle.su_ddl.specs.Grammar.{columns_symbols, in_parens, definition_symbols}
use Rattle.su_ddl.specs.Files.{no_definitions}
use Rattle.su_ddl.specs.ShownDefinitions.{name_at, names_in, pair_of, attribute_definition, relation_definition, object_definition, fd_definition, maximal_definition, definitions_of}
use Rattle.su_ddl.specs.Shown.{line_of, lines_of, schema_text}
use Rattle.su_ddl.proofs.SameSchema.{definitions_build}
use Rattle.su_ddl.proofs.Quiet.{IsQuiet, definition_quiet}
use Rattle.su_ddl.proofs.Steps.{builds_well}

-- ---- bytes of a line

word_short : (w : List ℕ) → IsWord w → length w ≤ 64
word_short [] is = absurd is
word_short (b ∷ bs) is = let few = is.2 in omega (arith, few)

sign_short : (s : ASign) → length (sign_bytes s) ≤ 64
sign_short sign.Open = omega arith
sign_short sign.Close = omega arith
sign_short sign.Comma = omega arith
sign_short sign.Dot = omega arith
sign_short sign.Arrow = omega arith
sign_short sign.Equal = omega arith
sign_short sign.NotEqual = omega arith
sign_short sign.Less = omega arith
sign_short sign.LessEqual = omega arith
sign_short sign.Greater = omega arith
sign_short sign.GreaterEqual = omega arith

spelled_short : (x : Symbol) → IsQuiet x → length (spelled x) ≤ 64
spelled_short (Word w) q = word_short w q
spelled_short (Int n) q = absurd q
spelled_short (Text t) q = absurd q
spelled_short (Sign s) q = sign_short s

after_short : (x : Symbol) (xs : List Symbol) → AllByRecursion IsQuiet xs → length (after x xs) ≤ 65 * length xs
after_short x [] qs = omega arith
after_short x (y ∷ ys) qs =
    let here = spelled_short y qs.0 in
    let more = after_short y ys qs.1 in
    let both : length (spelled y ++ after y ys) ≤ 64 + 65 * length ys = rw length-append (omega (arith, here, more)) in
    elim (opens x || closes y) as (λ v. (opens x || closes y) ≡ v → length (after x (y ∷ ys)) ≤ 65 * length (y ∷ ys)) [
      | true ↦ λ e. rw e (omega (arith, both))
      | false ↦ λ e. rw e (omega (arith, both))
    ] refl

spaced_short : (xs : List Symbol) → AllByRecursion IsQuiet xs → length (spaced xs) ≤ 65 * length xs
spaced_short [] qs = omega arith
spaced_short (x ∷ xs) qs =
    let here = spelled_short x qs.0 in
    let more = after_short x xs qs.1 in
    let both : length (spelled x ++ after x xs) ≤ 64 + 65 * length xs = rw length-append (omega (arith, here, more)) in
    omega (arith, both)

-- a definition of at most a thousand symbols
pub record IsShort (d : Definition) : Type 0 where
  pub few : length (definition_symbols d) ≤ 1000

line_short : (d : Definition) → IsWellNamed d → IsShort d → length (line_of d) ≤ 65002
line_short d well is =
    let h = spaced_short (definition_symbols d) (definition_quiet d well) in
    let few = is.few in
    rw length-append (omega (arith, h, few))

lines_short : (ds : List Definition) → AllByRecursion IsWellNamed ds → AllByRecursion IsShort ds → length (lines_of ds) ≤ 65002 * length ds
lines_short [] well short = omega arith
lines_short (d ∷ ds) well short =
    let here = line_short d well.0 short.0 in
    let more = lines_short ds well.1 short.1 in
    let both : length (line_of d ++ lines_of ds) ≤ 65002 + 65002 * length ds = rw length-append (omega (arith, here, more)) in
    omega (arith, both)

-- ---- symbols of a definition

more_few : (names : List (List ℕ)) → length (more_names names) ≤ 2 * length names
more_few [] = omega arith
more_few (n ∷ ns) = let h = more_few ns in omega (arith, h)

names_few : (names : List (List ℕ)) → length (names_symbols names) ≤ 2 * length names
names_few [] = omega arith
names_few (n ∷ ns) = let h = more_few ns in omega (arith, h)

parens_few : (names : List (List ℕ)) (behind : List Symbol) → length (in_parens names behind) ≤ 2 + 2 * length names + length behind
parens_few names behind =
    let h = names_few names in
    let e = length-append (names_symbols names) (Sign sign.Close ∷ behind) in
    omega (arith, h, e)

more_columns_few : (cs : List Column) → length (more_columns cs) ≤ 3 * length cs
more_columns_few [] = omega arith
more_columns_few (c ∷ cs) = let h = more_columns_few cs in omega (arith, h)

columns_few : (cs : List Column) → length (columns_symbols cs) ≤ 3 * length cs
columns_few [] = omega arith
columns_few (c ∷ cs) = let h = more_columns_few cs in omega (arith, h)

object_few : (name relation : List ℕ) (pairs : List Pair) → length pairs ≤ 128 → length (definition_symbols (Object name relation pairs)) ≤ 1000
object_few name relation pairs few =
    let a = length-map pairs (λ (p : Pair). p.attribute) in
    let c = length-map pairs (λ (p : Pair). p.column) in
    let columns : List Symbol = in_parens (map (λ (p : Pair). p.column) pairs) [] in
    let inner : length columns ≤ 2 + 2 * length (map (λ (p : Pair). p.column) pairs) + 0 = parens_few (map (λ (p : Pair). p.column) pairs) [] in
    let outer = parens_few (map (λ (p : Pair). p.attribute) pairs) (Word (codes "from") ∷ Word relation ∷ columns) in
    omega (arith, few, a, c, inner, outer)

-- ---- lists of names and pairs

listed_few : {B : Type 0} (x : Option B) (ys : List B) (n : ℕ) → length ys ≤ n → length (cons_option x ys) ≤ suc n
listed_few None ys n h = omega (arith, h)
listed_few (Some y) ys n h = omega (arith, h)

filter_map_few : {B : Type 0} (f : ℕ → Option B) (xs : List ℕ) → length (filter_map f xs) ≤ length xs
filter_map_few f [] = omega arith
filter_map_few f (x ∷ xs) = listed_few (f x) (filter_map f xs) (length xs) (filter_map_few f xs)

names_in_few : (names : List (List ℕ)) (set : FinSet nat_cmp) → length (names_in names set) ≤ length names
names_in_few names set =
    let kept = length-filter (contains set) (range_with_len 0 (length names)) in
    let all = length-range_with_len 0 (length names) in
    let one = length-map (filter (contains set) (range_with_len 0 (length names))) (name_at names) in
    omega (arith, kept, all, one)

-- ---- every definition

every : {X : Type 0} (P : X → Type 0) → ((x : X) → P x) → (xs : List X) → AllByRecursion P xs
every P each [] = tt
every P each (x ∷ xs) = (each x, every P each xs)

five_lengths : (a r o f m : List Definition) → length (a ++ r ++ o ++ f ++ m) ≡ length a + length r + length o + length f + length m
five_lengths a r o f m =
    length-append (a ++ r ++ o ++ f) m
    ∙ ap (λ n. n + length m) (length-append (a ++ r ++ o) f ∙ ap (λ n. n + length f) (length-append (a ++ r) o ∙ ap (λ n. n + length o) (length-append a r)))

module _ (s : SchemaValue) (valid : IsValid s) where
  attribute_short : (a : AttributeEntry) → IsShort (attribute_definition a)
  attribute_short a = record { few = omega arith }

  relation_short : (r : RelationEntry) → IsRelationEntry r → IsShort (relation_definition r)
  relation_short r is =
      let h = columns_few r.columns in
      let few = is.few in
      let e = length-append (columns_symbols r.columns) (Sign sign.Close ∷ []) in
      record { few = omega (arith, h, few, e) }

  object_short : (o : ObjectEntry) → IsShort (object_definition s o)
  object_short o =
      let kept : length (filter_map (pair_of s o) (range_with_len 0 (length s.attributes))) ≤ length (range_with_len 0 (length s.attributes)) = filter_map_few (pair_of s o) (range_with_len 0 (length s.attributes)) in
      let all = length-range_with_len 0 (length s.attributes) in
      let few = valid.few_attributes in
      record { few = object_few o.name _ (filter_map (pair_of s o) (range_with_len 0 (length s.attributes))) (omega (arith, kept, all, few)) }

  fd_short : (f : Dependency) → IsShort (fd_definition s f)
  fd_short f =
      let names = attribute_names s in
      let few = valid.few_attributes in
      let all = length-map s.attributes (λ (a : AttributeEntry). a.name) in
      let l = names_in_few names f.left in
      let r = names_in_few names f.right in
      let ls = names_few (names_in names f.left) in
      let rs = names_few (names_in names f.right) in
      let e = length-append (names_symbols (names_in names f.left)) (Sign sign.Arrow ∷ names_symbols (names_in names f.right)) in
      record { few = omega (arith, few, all, l, r, ls, rs, e) }

  maximal_short : (set : FinSet nat_cmp) → IsShort (maximal_definition s set)
  maximal_short set =
      let few = valid.few_objects in
      let all = length-map s.objects (λ (o : ObjectEntry). o.name) in
      let m = names_in_few (object_names s) set in
      let p = parens_few (names_in (object_names s) set) [] in
      record { few = omega (arith, few, all, m, p) }

  all_short : AllByRecursion IsShort (definitions_of s)
  all_short =
      let a = AllByRecursion-map IsShort attribute_definition s.attributes (every _ attribute_short s.attributes) in
      let r = AllByRecursion-map IsShort relation_definition s.relations (AllByRecursion-weaker IsRelationEntry (λ x. IsShort (relation_definition x)) s.relations relation_short (recursion_from_All IsRelationEntry s.relations valid.relations)) in
      let o = AllByRecursion-map IsShort (object_definition s) s.objects (every _ object_short s.objects) in
      let f = AllByRecursion-map IsShort (fd_definition s) s.fds (every _ fd_short s.fds) in
      let m = AllByRecursion-map IsShort (maximal_definition s) s.declared (every _ maximal_short s.declared) in
      let both = AllByRecursion-append IsShort in
      both _ _ (both _ _ (both _ _ (both _ _ a r) o) f) m

  count : length (definitions_of s) ≤ 576
  count =
      let a = length-map s.attributes attribute_definition in
      let r = length-map s.relations relation_definition in
      let o = length-map s.objects (object_definition s) in
      let f = length-map s.fds (fd_definition s) in
      let m = length-map s.declared (maximal_definition s) in
      let whole = five_lengths (map attribute_definition s.attributes) (map relation_definition s.relations) (map (object_definition s) s.objects) (map (fd_definition s) s.fds) (map (maximal_definition s) s.declared) in
      omega (arith, whole, a, r, o, f, m, valid.few_attributes, valid.few_relations, valid.few_objects, valid.few_fds, valid.few_declared)

-- the bytes of the text are counted by 32 bits
pub text_short : (s : SchemaValue) → IsValid s → length (schema_text s) < 2 ^ 32
text_short s valid =
    let lines = lines_short (definitions_of s) (builds_well no_definitions s (definitions_of s) (definitions_build s valid)) (all_short s valid) in
    let few = count s valid in
    omega (arith, lines, few)
