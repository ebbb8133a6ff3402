-- Lines and lists, one more at a time.
use Rattle.std.proofs.Common.{Option, Some, None, ◌≡◌, ◌<◌, ◌≤◌, ◌+◌, ℕ, Bool, true, false, cond, List, [], ◌∷◌, ◌++◌, length, map, filter, take, get_or, slice_get, refl, ap, sym, ◌∙◌, arith, subst, zero, suc, append_assoc, append-nil, option_map, drop}
use Rattle.std.specs.List.{range_with_len, filter_map, AllByRecursion, cons_option}
use Rattle.std.proofs.lemmas.List.{map-append, take_all, take_more, take-append-drop}
use Rattle.std.proofs.lemmas.Grind.{flat_map-append}
use Rattle.std.proofs.lemmas.List.Elements.{filter-append, filter_map-append, recursion_from_All}
use Rattle.std.proofs.lemmas.Option.{get_or_from_slice_get, slice_get_within, slice_get-map, slice_get-get_or, slice_get_past}
use Rattle.su_base.specs.declared.values.Column.{Column}
use Rattle.su_lex.specs.declared.meaning.Symbol.{Symbol}
use Rattle.su_lex.specs.declared.meaning.Symbol.TheVariants.{Sign}
use Rattle.su_lex.specs.declared.signs.Sign.TheVariants as sign
use Rattle.su_lex.specs.AddedFronts.{AddsFront}
use Rattle.su_schema.specs.declared.definitions.Definition.{Definition}
use Rattle.su_ddl.specs.inside.Columns.{behind_commas}
use Rattle.su_schema.specs.Known.{columns_at}
use Rattle.su_ddl.specs.Shown.{line_of, lines_of}
use Rattle.su_ddl.specs.ShownDefinitions.{name_at, pair_of}
use Rattle.su_ddl.specs.inside.PairAlone.{listed}
use Rattle.su_schema.specs.declared.definitions.Pair.{Pair}
use Rattle.su_schema.specs.SchemaValue.{SchemaValue, ObjectEntry}
use Rattle.su_schema.specs.Valid.{IsObject, IsValid}
use Rattle.su_schema.specs.Entries.{column_names, attribute_names}
use Rattle.su_base.proofs.Items.{flat_map-push, map-equal, range-push_zero}

-- ---- two pieces behind one another

pub chain : {A : Type 0} (o o1 o2 x y : List A) → o1 ≡ o ++ x → o2 ≡ o1 ++ y → o2 ≡ o ++ (x ++ y)
chain o o1 o2 x y e f = f ∙ ap (λ v. v ++ y) e ∙ append_assoc o x y

-- ---- lists of names and columns: each item by its symbols, behind a comma

module _ {X : Type 0} (f : X → List Symbol) where
  items_append : (xs ys : List X) → behind_commas (map f (xs ++ ys)) ≡ behind_commas (map f xs) ++ behind_commas (map f ys)
  items_append xs ys = ap behind_commas (map-append f xs ys) ∙ flat_map-append (λ symbols. Sign sign.Comma ∷ symbols) (map f xs) (map f ys)

  items_push : (xs : List X) (x : X) → behind_commas (map f (xs ++ x ∷ [])) ≡ behind_commas (map f xs) ++ Sign sign.Comma ∷ f x
  items_push xs x = ap behind_commas (map-append f xs (x ∷ [])) ∙ flat_map-push (λ symbols. Sign sign.Comma ∷ symbols) (map f xs) (f x)

  one_more : (xs : List X) (i : ℕ) (x none : X) → i < length xs → x ≡ get_or xs i none → take (i + 1) xs ≡ take i xs ++ x ∷ []
  one_more xs i x none l at = take_more xs i none l ∙ ap (λ y. take i xs ++ y ∷ []) (sym at)

  items_parts : (xs : List X) (i : ℕ) → behind_commas (map f xs) ≡ behind_commas (map f (take i xs)) ++ behind_commas (map f (drop i xs))
  items_parts xs i = ap (λ ys. behind_commas (map f ys)) (sym (take-append-drop i xs)) ∙ items_append (take i xs) (drop i xs)

  pub one_item : (xs : List X) (i : ℕ) (x none : X) (start out o1 o2 : List Symbol) → i < length xs → x ≡ get_or xs i none → out ≡ start ++ behind_commas (map f (take i xs))
      → o1 ≡ out ++ Sign sign.Comma ∷ [] → o2 ≡ o1 ++ f x → o2 ≡ start ++ behind_commas (map f (take (i + 1) xs))
  one_item xs i x none start out o1 o2 l at so e g =
      chain start out o2 (behind_commas (map f (take i xs))) (Sign sign.Comma ∷ f x) so (chain out o1 o2 (Sign sign.Comma ∷ []) (f x) e g)
      ∙ ap (λ y. start ++ y) (sym (items_push (take i xs) x) ∙ ap (λ ys. behind_commas (map f ys)) (sym (one_more xs i x none l at)))

  -- so many items are a front
  pub items_front : (xs : List X) (i : ℕ) (start out new : List Symbol) → out ≡ start ++ behind_commas (map f (take i xs)) → new ≡ out → AddsFront start new (behind_commas (map f xs))
  items_front xs i start out new so e =
      record { front = behind_commas (map f (take i xs)); rest = behind_commas (map f (drop i xs)); whole = items_parts xs i; added = e ∙ so }

  -- and so they are with the comma behind them
  pub comma_front : (xs : List X) (i : ℕ) (x none : X) (start out o1 new : List Symbol) → i < length xs → x ≡ get_or xs i none → out ≡ start ++ behind_commas (map f (take i xs))
      → o1 ≡ out ++ Sign sign.Comma ∷ [] → new ≡ o1 → AddsFront start new (behind_commas (map f xs))
  comma_front xs i x none start out o1 new l at so e same =
      let next : behind_commas (map f (take (i + 1) xs)) ≡ (behind_commas (map f (take i xs)) ++ Sign sign.Comma ∷ []) ++ f x =
      ap (λ ys. behind_commas (map f ys)) (one_more xs i x none l at) ∙ items_push (take i xs) x ∙ sym (append_assoc (behind_commas (map f (take i xs))) (Sign sign.Comma ∷ []) (f x)) in
      record {
        front = behind_commas (map f (take i xs)) ++ Sign sign.Comma ∷ [];
        rest = f x ++ behind_commas (map f (drop (i + 1) xs));
        whole = items_parts xs (i + 1) ∙ ap (λ y. y ++ behind_commas (map f (drop (i + 1) xs))) next
            ∙ append_assoc (behind_commas (map f (take i xs)) ++ Sign sign.Comma ∷ []) (f x) (behind_commas (map f (drop (i + 1) xs)));
        added = same ∙ chain start out o1 (behind_commas (map f (take i xs))) (Sign sign.Comma ∷ []) so e;
      }

-- ---- lines

lines_push : (ds : List Definition) (d : Definition) → lines_of (ds ++ d ∷ []) ≡ lines_of ds ++ line_of d
lines_push [] d = append-nil (line_of d)
lines_push (e ∷ ds) d = ap (λ x. line_of e ++ x) (lines_push ds d) ∙ sym (append_assoc (line_of e) (lines_of ds) (line_of d))

pub one_line : (ds : List Definition) (i : ℕ) (d : Definition) (start out next : List ℕ) → slice_get ds i ≡ Some d → out ≡ start ++ lines_of (take i ds) → next ≡ out ++ line_of d
    → next ≡ start ++ lines_of (take (i + 1) ds)
one_line ds i d start out next at so e =
    let more : take (i + 1) ds ≡ take i ds ++ d ∷ [] = take_more ds i d (slice_get_within ds i d at) ∙ ap (λ x. take i ds ++ x ∷ []) (get_or_from_slice_get ds i d d at) in
    chain start out next (lines_of (take i ds)) (line_of d) so e ∙ ap (λ x. start ++ x) (sym (lines_push (take i ds) d) ∙ ap lines_of (sym more))

pub lines_append : (ds es : List Definition) → lines_of (ds ++ es) ≡ lines_of ds ++ lines_of es
lines_append [] es = refl
lines_append (d ∷ ds) es = ap (λ x. line_of d ++ x) (lines_append ds es) ∙ sym (append_assoc (line_of d) (lines_of ds) (lines_of es))

pub all_lines : (ds : List Definition) (i : ℕ) (start out : List ℕ) → length ds ≤ i → out ≡ start ++ lines_of (take i ds) → out ≡ start ++ lines_of ds
all_lines ds i start out l so = so ∙ ap (λ x. start ++ lines_of x) (take_all i ds l)

pub five_kinds : (a r o f m : List Definition) (x0 x1 x2 x3 x4 x5 : List ℕ) → x0 ≡ [] → x1 ≡ x0 ++ lines_of a → x2 ≡ x1 ++ lines_of r → x3 ≡ x2 ++ lines_of o → x4 ≡ x3 ++ lines_of f
    → x5 ≡ x4 ++ lines_of m → x5 ≡ lines_of (a ++ r ++ o ++ f ++ m)
five_kinds a r o f m x0 x1 x2 x3 x4 x5 e0 e1 e2 e3 e4 e5 =
    let h1 : x1 ≡ lines_of a = e1 ∙ ap (λ v. v ++ lines_of a) e0 in
    let h2 : x2 ≡ lines_of (a ++ r) = e2 ∙ ap (λ v. v ++ lines_of r) h1 ∙ sym (lines_append a r) in
    let h3 : x3 ≡ lines_of (a ++ r ++ o) = e3 ∙ ap (λ v. v ++ lines_of o) h2 ∙ sym (lines_append (a ++ r) o) in
    let h4 : x4 ≡ lines_of (a ++ r ++ o ++ f) = e4 ∙ ap (λ v. v ++ lines_of f) h3 ∙ sym (lines_append (a ++ r ++ o) f) in
    e5 ∙ ap (λ v. v ++ lines_of m) h4 ∙ sym (lines_append (a ++ r ++ o ++ f) m)

-- ---- entries by their number

pub two_fields : {A B C D : Type 0} (f : A → B) (g : A → C) (h : B → C → D) (xs : List A) (i : ℕ) (u : B) (v : C) → slice_get (map f xs) i ≡ Some u → slice_get (map g xs) i ≡ Some v
    → slice_get (map (λ x. h (f x) (g x)) xs) i ≡ Some (h u v)
two_fields f g h [] i u v e k = absurd (cc)
two_fields f g h (x ∷ xs) zero u v e k =
    let a : f x ≡ u = cc in
    let b : g x ≡ v = cc in
    ap (λ y. Some (h y (g x))) a ∙ ap (λ y. Some (h u y)) b
two_fields f g h (x ∷ xs) (suc i) u v e k = two_fields f g h xs i u v e k

-- ---- ranges

pub one_wanted : {B : Type 0} (p : ℕ → Bool) (f : ℕ → B) (n : ℕ) (x : B) (names next : List B) → f n ≡ x → names ≡ map f (filter p (range_with_len 0 n)) → next ≡ names ++ cond (p n) (x ∷ []) []
    → next ≡ map f (filter p (range_with_len 0 (n + 1)))
one_wanted p f n x names next at so e =
    let one : cond (p n) (x ∷ []) [] ≡ map f (cond (p n) (n ∷ []) []) = elim (p n) as (λ v. cond v (x ∷ []) [] ≡ map f (cond v (n ∷ []) [])) [ true ↦ ap (λ y. y ∷ []) (sym at) | false ↦ refl ] in
    e ∙ ap (λ v. v ++ cond (p n) (x ∷ []) []) so ∙ ap (λ v. map f (filter p (range_with_len 0 n)) ++ v) one ∙ sym (map-append f (filter p (range_with_len 0 n)) (cond (p n) (n ∷ []) []))
    ∙ ap (map f) (sym (filter-append p (range_with_len 0 n) (n ∷ [])) ∙ ap (filter p) (sym (range-push_zero n)))

-- ---- entries of a schema

pub three_fields : {A B C D E : Type 0} (f : A → B) (g : A → C) (k : A → D) (h : B → C → D → E) (xs : List A) (i : ℕ) (u : B) (v : C) (w : D)
    → slice_get (map f xs) i ≡ Some u → slice_get (map g xs) i ≡ Some v → slice_get (map k xs) i ≡ Some w → slice_get (map (λ x. h (f x) (g x) (k x)) xs) i ≡ Some (h u v w)
three_fields f g k h [] i u v w e e' e'' = absurd (cc)
three_fields f g k h (x ∷ xs) zero u v w e e' e'' =
    let a : f x ≡ u = cc in
    let b : g x ≡ v = cc in
    let c : k x ≡ w = cc in
    ap (λ y. Some (h y (g x) (k x))) a ∙ ap (λ y. Some (h u y (k x))) b ∙ ap (λ y. Some (h u v y)) c
three_fields f g k h (x ∷ xs) (suc i) u v w e e' e'' = three_fields f g k h xs i u v w e e' e''

pub column_there : (cs : List Column) (i : ℕ) (c : Column) → slice_get cs i ≡ Some c → name_at (column_names cs) i ≡ c.name
column_there [] i c e = absurd (cc)
column_there (d ∷ cs) zero c e = let h : d ≡ c = cc in ap (λ x. x.name) h
column_there (d ∷ cs) (suc i) c e = column_there cs i c e

pub no_column_there : (cs : List Column) (i : ℕ) → slice_get cs i ≡ None → name_at (column_names cs) i ≡ []
no_column_there [] i e = refl
no_column_there (d ∷ cs) zero e = absurd (cc)
no_column_there (d ∷ cs) (suc i) e = no_column_there cs i e

stored_at : (schema : SchemaValue) (xs : List ObjectEntry) (i r : ℕ) → AllByRecursion (IsObject schema) xs → slice_get (map (λ x. x.relation) xs) i ≡ Some r → r < length schema.relations
stored_at schema [] i r all e = absurd (cc)
stored_at schema (x ∷ xs) zero r all e =
    let same : x.relation ≡ r = cc in
    subst (λ (k : ℕ). k < length schema.relations) same (slice_get_within schema.relations x.relation all.0.relation all.0.stored)
stored_at schema (x ∷ xs) (suc i) r all e = stored_at schema xs i r all.1 e

pub stored : (schema : SchemaValue) (i r : ℕ) → IsValid schema → slice_get (map (λ x. x.relation) schema.objects) i ≡ Some r → r < length schema.relations
stored schema i r valid e = stored_at schema schema.objects i r (recursion_from_All (IsObject schema) schema.objects valid.objects) e

listed_is : (p : Option Pair) → listed p ≡ cons_option p []
listed_is None = refl
listed_is (Some pair) = refl

pub one_pair : (schema : SchemaValue) (i a : ℕ) (pairs : List Pair) (p : Option Pair)
    → slice_get (map (λ x. filter_map (pair_of schema x) (range_with_len 0 a)) schema.objects) i ≡ Some pairs → slice_get (map (λ x. pair_of schema x a) schema.objects) i ≡ Some p
    → slice_get (map (λ x. filter_map (pair_of schema x) (range_with_len 0 (a + 1))) schema.objects) i ≡ Some (pairs ++ listed p)
one_pair schema i a pairs p so at =
    let both = two_fields (λ (x : ObjectEntry). filter_map (pair_of schema x) (range_with_len 0 a)) (λ (x : ObjectEntry). pair_of schema x a) (λ ps q. ps ++ listed q) schema.objects i pairs p so at in
    let same : (x : ObjectEntry) → filter_map (pair_of schema x) (range_with_len 0 (a + 1)) ≡ filter_map (pair_of schema x) (range_with_len 0 a) ++ listed (pair_of schema x a) =
    λ x. ap (filter_map (pair_of schema x)) (range-push_zero a) ∙ filter_map-append (pair_of schema x) (range_with_len 0 a) (a ∷ [])
    ∙ ap (λ v. filter_map (pair_of schema x) (range_with_len 0 a) ++ v) (sym (listed_is (pair_of schema x a))) in
    ap (λ v. slice_get v i) (map-equal (λ x. filter_map (pair_of schema x) (range_with_len 0 (a + 1))) (λ x. filter_map (pair_of schema x) (range_with_len 0 a) ++ listed (pair_of schema x a)) schema.objects same) ∙ both

pub none_yet : {A B : Type 0} (y : B) (xs : List A) (i : ℕ) → i < length xs → slice_get (map (λ x. y) xs) i ≡ Some y
none_yet y [] i l = absurd (omega arith)
none_yet y (x ∷ xs) zero l = refl
none_yet y (x ∷ xs) (suc i) l = none_yet y xs i (omega arith)

pub listed_at : {A B : Type 0} (f : A → B) (xs ys : List A) (i : ℕ) (none : A) (d : B) → ys ≡ xs → i < length ys → d ≡ f (get_or ys i none) → slice_get (map f xs) i ≡ Some d
listed_at {A = A} f xs ys i none d e l h =
    subst (λ (zs : List A). slice_get (map f zs) i ≡ Some d) e
    (slice_get-map f ys i ∙ ap (option_map f) (slice_get-get_or ys i none l) ∙ ap Some (sym h))

-- the pair of an attribute that is taken from this column, on this relation
abbrev pub pair_on : SchemaValue → ℕ → Option ℕ → ℕ → Option Pair
pair_on schema a c r = option_map (λ k. record { attribute = name_at (attribute_names schema) a; column = name_at (column_names (columns_at schema r)) k }) c

pub column_within : (cs : List Column) (i : ℕ) (c none : Column) → i < length cs → c ≡ get_or cs i none → name_at (column_names cs) i ≡ c.name
column_within cs i c none l e = column_there cs i (get_or cs i none) (slice_get-get_or cs i none l) ∙ ap (λ x. x.name) (sym e)

pub column_past : (cs : List Column) (i : ℕ) → length cs ≤ i → name_at (column_names cs) i ≡ []
column_past cs i l = no_column_there cs i (slice_get_past cs i l)
