-- Rows agree on an object's attributes exactly where they agree at the columns of these.
use Rattle.std.proofs.Common.{◌≡◌, ◌≢◌, ◌<◌, ◌≤◌, ◌+◌, ℕ, true, false, nat_eq, cond, ◌==◌, ◌||◌, List, [], ◌∷◌, length, map, slice_get, get_or, Option, Some, None, MatchOption, refl, sym, ap, subst, ◌∙◌, Contains, inl, inr, arith, below_more}
use Rattle.std.specs.Prelude.{IsTrue, find, option_map, option_and_then}
use Rattle.std.specs.List.{list_any}
use Rattle.std.specs.Ordering.{nat_cmp}
use Rattle.std.specs.FinSet.{FinSet, empty, insert, contains, is_subset, contains-from_list_nat, contains-empty, members}
use Rattle.std.proofs.lemmas.Bool.{false≢true, cases_eq, cases_Bool}
use Rattle.std.proofs.lemmas.Bool.Decides.{nat_tests}
use Rattle.std.proofs.lemmas.List.Elements.{All-contains}
use Rattle.std.proofs.lemmas.Option.{slice_get_within, slice_get-map, slice_get-get_or, get_or_from_slice_get, none-some}
use Rattle.su_base.specs.declared.values.Value.{Value}
use Rattle.su_base.proofs.Subsets.{subset_at, subset_by, subset_antisymm, not_subset}
use Rattle.su_fd.specs.declared.dependencies.Fd.{Fd}
use Rattle.su_schema.specs.declared.links.Link.{Link}
use Rattle.su_schema.specs.SchemaValue.{SchemaValue, ObjectEntry, RelationEntry}
use Rattle.su_schema.specs.Valid.{IsValid, IsObject, IsLink, IsRelationEntry, IsDependency}
use Rattle.su_schema.specs.Entries.{column_of, attributes_of, relation_columns}
use Rattle.su_schema.specs.Known.{columns_at}
use Rattle.su_schema.proofs.Entries.{blank_object}
use Rattle.su_schema.proofs.LinkOrder.{found}
use Rattle.su_state.specs.Enforced.{read, AgreeThrough, Break}
use Rattle.su_state.specs.declared.sides.Sides.{Sides}
use Rattle.su_state.specs.inside.Sides.{AreColumnsOf, AreSidesOf, AgreeAt, Clash}

read_column : (object : ObjectEntry) (a c : ℕ) (row : List Value) → column_of object a ≡ Some c → read object a row ≡ slice_get row c
read_column object a c row e = ap (λ (o : Option ℕ). option_and_then (slice_get row) o) e

Agree-from_columns : (object : ObjectEntry) (attributes columns : FinSet nat_cmp) (row other : List Value) → AreColumnsOf object attributes columns → AgreeAt columns row other → AgreeThrough object attributes row other
Agree-from_columns object attributes columns row other are agree a there =
    elim (column_of object a) as (λ o. column_of object a ≡ o → read object a row ≡ read object a other) [
      | None ↦ λ e. ap (λ (o : Option ℕ). option_and_then (slice_get row) o) e ∙ sym (ap (λ (o : Option ℕ). option_and_then (slice_get other) o) e)
      | Some c ↦ λ e. read_column object a c row e ∙ agree c ((are c).1 (a, there, e)) ∙ sym (read_column object a c other e)
    ] refl

columns-from_Agree : (object : ObjectEntry) (attributes columns : FinSet nat_cmp) (row other : List Value) → AreColumnsOf object attributes columns → AgreeThrough object attributes row other → AgreeAt columns row other
columns-from_Agree object attributes columns row other are agree c there =
    let w = (are c).0 there in
    sym (read_column object w.0 c row w.2) ∙ agree w.0 w.1 ∙ read_column object w.0 c other w.2

pub break_from_clash : (object : ObjectEntry) (fd : Fd) (sides : Sides) (row other : List Value) → AreSidesOf object fd sides → Clash sides row other → Break fd object row other
break_from_clash object fd sides row other are clash = record {
  lies = are.lies;
  agree = Agree-from_columns object fd.left sides.left row other are.left clash.0;
  differ = λ all. clash.1 (columns-from_Agree object fd.right sides.right row other are.right all);
}

pub clash_from_break : (object : ObjectEntry) (fd : Fd) (sides : Sides) (row other : List Value) → AreSidesOf object fd sides → Break fd object row other → Clash sides row other
clash_from_break object fd sides row other are broken = (
  columns-from_Agree object fd.left sides.left row other are.left broken.agree,
  λ all. broken.differ (Agree-from_columns object fd.right sides.right row other are.right all),
)

-- the columns of the attributes below n
abbrev pub AreColumnsBelow : ObjectEntry → FinSet nat_cmp → ℕ → FinSet nat_cmp → Type 0
AreColumnsBelow object attributes n columns = (c : ℕ) → (IsTrue (contains columns c) → (a : ℕ) × (a < n) × IsTrue (contains attributes a) × (column_of object a ≡ Some c)) × ((a : ℕ) → a < n → IsTrue (contains attributes a) → column_of object a ≡ Some c → IsTrue (contains columns c))

pub columns_none : (object : ObjectEntry) (attributes columns : FinSet nat_cmp) → columns ≡ empty → AreColumnsBelow object attributes 0 columns
columns_none object attributes columns none c = (
  λ there. absurd (false≢true (sym (ap (λ (s : FinSet nat_cmp). contains s c) none ∙ contains-empty nat_cmp c) ∙ there)),
  λ a less. absurd (omega arith),
)

-- the attribute n has no column, or is none of these
pub columns_skip : (object : ObjectEntry) (attributes columns : FinSet nat_cmp) (n : ℕ) → AreColumnsBelow object attributes n columns → ((c : ℕ) → IsTrue (contains attributes n) → column_of object n ≡ Some c → ⊥) → AreColumnsBelow object attributes (n + 1) columns
columns_skip object attributes columns n are none c = (
  λ there. let w = (are c).0 there in (w.0, omega (arith, w.1), w.2, w.3),
  λ a less in' at.
      elim (cases_eq a n) [
        | inl is ↦ absurd (none c (subst (λ (k : ℕ). IsTrue (contains attributes k)) is in') (ap (column_of object) (sym is) ∙ at))
        | inr apart ↦ (are c).1 a (omega (arith, apart)) in' at
      ],
)

pub columns_more : (object : ObjectEntry) (attributes columns : FinSet nat_cmp) (n column : ℕ) → AreColumnsBelow object attributes n columns → IsTrue (contains attributes n) → column_of object n ≡ Some column → AreColumnsBelow object attributes (n + 1) (insert columns column)
columns_more object attributes columns n column are in' at c = (
  λ there.
      elim (cases_eq c column) [
        | inl is ↦ (n, omega arith, in', at ∙ ap Some (sym is))
        | inr apart ↦
            let old : contains columns c ≡ true = grind (arith, nat_tests, members, apart, there) in
            let w = (are c).0 old in (w.0, omega (arith, w.1), w.2, w.3)
      ],
  λ a less in'' there.
      elim (cases_eq a n) [
        | inl is ↦
            let same : Some c ≡ Some column = sym there ∙ ap (column_of object) is ∙ at in
            let one : c ≡ column = cc in
            rw one (grind (arith, nat_tests, members))
        | inr apart ↦
            let old : contains columns c ≡ true = (are c).1 a (omega (arith, apart)) in'' there in
            grind (arith, nat_tests, members, old)
      ],
)

pub columns_all : (object : ObjectEntry) (attributes columns : FinSet nat_cmp) (n : ℕ) → AreColumnsBelow object attributes n columns → ((a : ℕ) → IsTrue (contains attributes a) → a < n) → AreColumnsOf object attributes columns
columns_all object attributes columns n are below c = (
  λ there. let w = (are c).0 there in (w.0, w.2, w.3),
  λ (a, in', at). (are c).1 a (below a in') in' at,
)

-- the link of a column
link_of_column : (links : List Link) (a c : ℕ) (o : Option Link) → find (λ l. l.attribute == a) links ≡ o → option_map (λ l. l.column) o ≡ Some c → (l : Link) × Contains links l × (l.column ≡ c)
link_of_column links a c None at none = cc
link_of_column links a c (Some l) at some = (l, (found (λ k. k.attribute == a) links l at).0, cc)

pub relation_at : (schema : SchemaValue) (entry : ObjectEntry) (relation : RelationEntry) → slice_get schema.relations entry.relation ≡ Some relation → columns_at schema entry.relation ≡ relation.columns
relation_at schema entry relation at =
    get_or_from_slice_get (relation_columns schema) entry.relation relation.columns [] (slice_get-map (λ r. r.columns) schema.relations entry.relation ∙ ap (option_map (λ r. r.columns)) at)

-- an object takes its attributes from its relation's columns
pub column_within : (schema : SchemaValue) (o : ℕ) (entry : ObjectEntry) (a c : ℕ) → IsValid schema → slice_get schema.objects o ≡ Some entry → column_of entry a ≡ Some c → c < length (columns_at schema entry.relation)
column_within schema o entry a c valid at column =
    let own : IsObject schema entry = subst (IsObject schema) (get_or_from_slice_get schema.objects o entry entry at) (valid.objects o entry (slice_get_within schema.objects o entry at)) in
    let w = link_of_column entry.links a c (find (λ l. l.attribute == a) entry.links) refl column in
    let link : IsLink schema own.relation.columns w.0 = All-contains (IsLink schema own.relation.columns) entry.links w.0 own.joined w.1 in
    let within : w.0.column < length own.relation.columns = slice_get_within own.relation.columns w.0.column link.1 link.3 in
    rw (relation_at schema entry own.relation own.stored) (omega (arith, within, w.2))

pub columns_few : (schema : SchemaValue) (r : ℕ) → IsValid schema → r < length schema.relations → length (columns_at schema r) ≤ 32
columns_few schema r valid within =
    let d : RelationEntry = record { name = []; columns = [] } in
    let is : columns_at schema r ≡ (get_or schema.relations r d).columns =
    get_or_from_slice_get (relation_columns schema) r (get_or schema.relations r d).columns [] (slice_get-map (λ r. r.columns) schema.relations r ∙ ap (option_map (λ r. r.columns)) (slice_get-get_or schema.relations r d within)) in
    let one : IsRelationEntry (get_or schema.relations r d) = valid.relations r d within in
    rw is one.few

-- the object of a number stands on one of the relations
pub object_on : (schema : SchemaValue) (o : ℕ) (entry : ObjectEntry) → IsValid schema → slice_get schema.objects o ≡ Some entry → entry.relation < length schema.relations
object_on schema o entry valid at =
    let own : IsObject schema entry = subst (IsObject schema) (get_or_from_slice_get schema.objects o entry entry at) (valid.objects o entry (slice_get_within schema.objects o entry at)) in
    slice_get_within schema.relations entry.relation own.relation own.stored

-- a set that is not empty has a member
pub some_member : (s : FinSet nat_cmp) → s ≢ empty → (a : ℕ) × (contains s a ≡ true)
some_member s some =
    elim (cases_Bool (is_subset s empty)) [
      | inl all ↦ absurd (some (subset_antisymm s empty all (subset_by empty s (λ q one. absurd (false≢true (sym (contains-empty nat_cmp q) ∙ one))))))
      | inr out ↦ let w = not_subset s empty out in (w.0, w.1)
    ]

-- an attribute of the object has a column
has_link : (links : List Link) (a : ℕ) → list_any (λ y. nat_eq y a) (map (λ l. l.attribute) links) ≡ true → (c : ℕ) × (option_map (λ l. l.column) (find (λ l. l.attribute == a) links) ≡ Some c)
has_link [] a none = absurd (false≢true none)
has_link (l ∷ links) a any =
    elim (l.attribute == a) as (λ b. (b || list_any (λ y. nat_eq y a) (map (λ l. l.attribute) links)) ≡ true → (c : ℕ) × (option_map (λ l. l.column) (cond b (Some l) (find (λ l. l.attribute == a) links)) ≡ Some c)) [
      | true ↦ λ _. (l.column, refl)
      | false ↦ λ more. has_link links a more
    ] any

pub column_of_attribute : (entry : ObjectEntry) (a : ℕ) → contains (attributes_of entry) a ≡ true → (c : ℕ) × (column_of entry a ≡ Some c)
column_of_attribute entry a there = has_link entry.links a (sym (contains-from_list_nat (map (λ l. l.attribute) entry.links) a) ∙ there)

-- the left side has a column
pub some_left : (schema : SchemaValue) (o f : ℕ) (entry : ObjectEntry) (fd : Fd) (sides : Sides) → IsValid schema → slice_get schema.objects o ≡ Some entry → slice_get schema.fds f ≡ Some fd → AreSidesOf entry fd sides → (c : ℕ) × IsTrue (contains sides.left c) × (c < length (columns_at schema entry.relation))
some_left schema o f entry fd sides valid at numbered are =
    let own : IsDependency schema fd = subst (IsDependency schema) (get_or_from_slice_get schema.fds f fd fd numbered) (valid.fds f fd (slice_get_within schema.fds f fd numbered)) in
    let a = some_member fd.left own.left.some in
    let c = column_of_attribute entry a.0 (subset_at fd.left (attributes_of entry) a.0 are.lies.left a.1) in
    (c.0, (are.left c.0).1 (a.0, a.1, c.1), column_within schema o entry a.0 c.0 valid at c.1)

-- the attributes of a dependency are those of the schema
pub left_below : (schema : SchemaValue) (f : ℕ) (fd : Fd) → IsValid schema → slice_get schema.fds f ≡ Some fd → (a : ℕ) → IsTrue (contains fd.left a) → a < length schema.attributes
left_below schema f fd valid numbered =
    let own : IsDependency schema fd = subst (IsDependency schema) (get_or_from_slice_get schema.fds f fd fd numbered) (valid.fds f fd (slice_get_within schema.fds f fd numbered)) in
    own.left.below

pub right_below : (schema : SchemaValue) (f : ℕ) (fd : Fd) → IsValid schema → slice_get schema.fds f ≡ Some fd → (a : ℕ) → IsTrue (contains fd.right a) → a < length schema.attributes
right_below schema f fd valid numbered =
    let own : IsDependency schema fd = subst (IsDependency schema) (get_or_from_slice_get schema.fds f fd fd numbered) (valid.fds f fd (slice_get_within schema.fds f fd numbered)) in
    own.right.below

-- the columns with that of the attribute n, if it has one
pub columns_with : (object : ObjectEntry) (attributes columns : FinSet nat_cmp) (n : ℕ) (new : FinSet nat_cmp) → AreColumnsBelow object attributes n columns → IsTrue (contains attributes n) → MatchOption (column_of object n) (new ≡ columns) (λ c. new ≡ insert columns c) → AreColumnsBelow object attributes (n + 1) new
columns_with object attributes columns n new are in' is =
    elim (column_of object n) as (λ o. column_of object n ≡ o → MatchOption o (new ≡ columns) (λ c. new ≡ insert columns c) → AreColumnsBelow object attributes (n + 1) new) [
      | None ↦ λ at same. rw same (columns_skip object attributes columns n are (λ c _ some. none-some c (sym at ∙ some)))
      | Some column ↦ λ at same. rw same (columns_more object attributes columns n column are in' at)
    ] refl is

-- a column of an attribute, as the schema answers it
pub column_answered : (schema : SchemaValue) (o a : ℕ) (entry : ObjectEntry) (answer : Option ℕ) → slice_get schema.objects o ≡ Some entry → slice_get (map (λ object. column_of object a) schema.objects) o ≡ Some answer → column_of entry a ≡ answer
column_answered schema o a entry answer placed answered =
    let same : Some (column_of entry a) ≡ Some answer = sym (slice_get-map (λ object. column_of object a) schema.objects o ∙ ap (option_map (λ object. column_of object a)) placed) ∙ answered in
    cc

-- a column that an object of the schema has is a small number
pub column_small : (schema : SchemaValue) (o a c : ℕ) → IsValid schema → o < length schema.objects → slice_get (map (λ object. column_of object a) schema.objects) o ≡ Some (Some c) → c < 128
column_small schema o a c valid within answered =
    let entry : ObjectEntry = get_or schema.objects o blank_object in
    let placed : slice_get schema.objects o ≡ Some entry = slice_get-get_or schema.objects o blank_object within in
    let column : column_of entry a ≡ Some c = column_answered schema o a entry (Some c) placed answered in
    let one : c < length (columns_at schema entry.relation) = column_within schema o entry a c valid placed column in
    let few : length (columns_at schema entry.relation) ≤ 32 = columns_few schema entry.relation valid (object_on schema o entry valid placed) in
    omega arith

-- what is known of the rarest column so far: no column below n is one of these, or this is one of them
abbrev pub IsRareSoFar : FinSet nat_cmp → ℕ → ℕ → ℕ → Option ℕ → Type 0
IsRareSoFar columns width n least None = ((k : ℕ) → k < n → contains columns k ≡ false) × (least ≡ 18446744073709551615)
IsRareSoFar columns width n least (Some b) = IsTrue (contains columns b) × (b < width)

pub rare_skip : (columns : FinSet nat_cmp) (width n least : ℕ) (best : Option ℕ) → IsRareSoFar columns width n least best → contains columns n ≡ false → IsRareSoFar columns width (n + 1) least best
rare_skip columns width n least None (none, most) out = (below_more (λ k. contains columns k ≡ false) n none out, most)
rare_skip columns width n least (Some b) known out = known

pub rare_stays : (columns : FinSet nat_cmp) (width n least count : ℕ) (best : Option ℕ) → IsRareSoFar columns width n least best → least < count → count < 18446744073709551616 → IsRareSoFar columns width (n + 1) least best
rare_stays columns width n least count None (none, most) more fits = absurd (omega arith)
rare_stays columns width n least count (Some b) known more fits = known
