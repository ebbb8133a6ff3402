-- What single calls of a store write, as the words of specs/inside have it.
use Rattle.std.proofs.Common.{◌≡◌, ◌≢◌, inl, inr, ⊎_elim, ◌↔◌, ℕ, zero, suc, pos, ◌+◌, ◌<◌, ◌≤◌, Bool, true, false, cond, List, [], ◌∷◌, ◌++◌, Contains, map, take, codes, slice_get, unwrap_or, Option, Some, None, refl, sym, ap, subst, ◌∙◌, arith, eq-eqb, ne_eqb, lt-ltb}
use Rattle.std.proofs.lemmas.Bool.{cases_eq}
use Rattle.std.proofs.lemmas.Cmp.{tied_itself}
use Rattle.std.proofs.lemmas.Option.{slice_get_within}
use Rattle.std.specs.List.{AllByRecursion}
use Rattle.std.specs.Prelude.{not}
use Rattle.std.specs.Ordering.{is_eq, match_ordering}
use Rattle.std.specs.declared.cmp.Ordering.TheVariants.{Less}
use Rattle.sqlite_value.specs.Order.{Row as Entry, column, value_cmp}
use Rattle.sqlite_value.specs.Keys.{plain}
use Rattle.sqlite_value.specs.declared.keys.Order.{Order}
use Rattle.sqlite_value.specs.declared.value.Value.TheVariants.{Int, Text}
use Rattle.sqlite_value.proofs.OrderLemmas.{value_cmp-Int}
use Rattle.sqlite_value.proofs.KeyLemmas.{entry_cmp_total}
use Rattle.sqlite_trees.specs.declared.schema.Object.{Object}
use Rattle.sqlite_trees.specs.Tree.{Trees, rowid, put_row, with_tree, insert_entry, remove_entry}
use Rattle.sqlite_trees.specs.View.{View, SetsTree}
use Rattle.sqlite_trees.specs.Objects.{catalog_tree, version_tree, version_rows, description, object_row, Creates}
use Rattle.su_base.specs.declared.values.Value.{Value as AValue}
use Rattle.su_changes.specs.declared.changes.Change.{Change}
use Rattle.su_changes.specs.Changes.{ChangesRows}
use Rattle.su_entries.specs.Changes.{with_rows, without_rows, ChangesTree}
use Rattle.su_entries.specs.TreeRows.{AreEntries, Adds, Leaves}
use Rattle.su_schema.specs.SchemaValue.{SchemaValue}
use Rattle.su_schema.specs.Entries.{relation_names}
use Rattle.su_schema.specs.Known.{columns_at}
use Rattle.su_keep.specs.Listed.{name_at, statement, table_row, text_row, relation_row, rows_to}
use Rattle.su_keep.specs.Shown.{text_entries, listed_in}
use Rattle.su_keep.specs.inside.Writes.{MakesTable, MakesTables, Edits, WritesText, WritesTable, WritesTables}

tree_at : (trees : Trees) (tree : ℕ) (es : List Entry) → with_tree trees tree es tree ≡ es
tree_at trees tree es = rw (eq-eqb tree tree refl) refl

tree_beside : (trees : Trees) (tree t : ℕ) (es : List Entry) → t ≢ tree → with_tree trees tree es t ≡ trees t
tree_beside trees tree t es apart = rw (ne_eqb t tree apart) refl

-- ---- tables

-- a row whose number is past all others goes behind them
put_last : (new : Entry) (rows : List Entry) → AllByRecursion (λ r. value_cmp (rowid r) (rowid new) ≡ Less) rows → put_row new rows ≡ rows ++ new ∷ []
put_last new [] all = refl
put_last new (r ∷ rows) (here, more) = ap (λ o. match_ordering o (r ∷ put_row new rows) (new ∷ rows) (new ∷ r ∷ rows)) here ∙ ap (λ (rs : List Entry). r ∷ rs) (put_last new rows more)

all_then : (P : Entry → Type 0) (rows : List Entry) (row : Entry) → AllByRecursion P rows → P row → AllByRecursion P (rows ++ row ∷ [])
all_then P [] row all last = (last, tt)
all_then P (r ∷ rows) row (here, more) last = (here, all_then P rows row more last)

below_number : (a n : ℕ) → a < n → value_cmp (Int (pos a)) (Int (pos n)) ≡ Less
below_number a n below = rw (value_cmp-Int (pos a) (pos n), lt-ltb a n below) refl

-- the tables of the first relations have the numbers before
pub numbers_to : (schema : SchemaValue) (r n : ℕ) → r + 1 < n → AllByRecursion (λ row. value_cmp (rowid row) (Int (pos n)) ≡ Less) (rows_to schema r)
unfolding rows_to
numbers_to schema zero n below = (below_number 1 n (omega (arith, below)), tt)
numbers_to schema (suc r) n below =
    all_then (λ row. value_cmp (rowid row) (Int (pos n)) ≡ Less) (rows_to schema r) (relation_row schema r) (numbers_to schema r n (omega (arith, below))) (below_number (r + 2) n (omega (arith, below)))

first_column : (r : Entry) → column (take 5 r) 0 ≡ column r 0
first_column [] = refl
first_column (a ∷ more) = refl

-- what holds of the numbers without the last columns holds of the rows
pub numbers_of_front : (n : ℕ) (rows : List Entry) → AllByRecursion (λ row. value_cmp (rowid row) (Int (pos n)) ≡ Less) (map (take 5) rows) → AllByRecursion (λ row. value_cmp (rowid row) (Int (pos n)) ≡ Less) rows
numbers_of_front n [] all = tt
numbers_of_front n (row ∷ rows) (here, more) = (subst (λ v. value_cmp v (Int (pos n)) ≡ Less) (first_column row) here, numbers_of_front n rows more)

map_then : (rows : List Entry) (row : Entry) → map (take 5) (rows ++ row ∷ []) ≡ map (take 5) rows ++ take 5 row ∷ []
map_then [] row = refl
map_then (r ∷ rows) row = ap (λ (rs : List Entry). take 5 r ∷ rs) (map_then rows row)

one_suc : (schema : SchemaValue) (r : ℕ) → rows_to schema r ++ relation_row schema r ∷ [] ≡ rows_to schema (suc r)
unfolding rows_to
one_suc schema r = refl

pub one_more : (schema : SchemaValue) (r : ℕ) → rows_to schema r ++ relation_row schema r ∷ [] ≡ rows_to schema (r + 1)
one_more schema r = let e : suc r ≡ r + 1 = omega arith in subst (λ (n : ℕ). rows_to schema r ++ relation_row schema r ∷ [] ≡ rows_to schema n) e (one_suc schema r)

-- the tables that were looked at, and the next
take_suc : (rows : List Entry) (n : ℕ) (row : Entry) → slice_get rows n ≡ Some row → take (suc n) rows ≡ take n rows ++ row ∷ []
take_suc [] n row at = absurd (let never = slice_get_within [] n row at in omega (arith, never))
take_suc (x ∷ xs) zero row at = ap (λ (o : Option Entry). unwrap_or o x ∷ []) at
take_suc (x ∷ xs) (suc n) row at = ap (λ (rs : List Entry). x ∷ rs) (take_suc xs n row at)

pub next_row : (schema : SchemaValue) (objects : List Entry) (r : ℕ) (row : Entry) → take (r + 1) objects ≡ rows_to schema r → slice_get objects (r + 1) ≡ Some row → row ≡ relation_row schema r → take (r + 1 + 1) objects ≡ rows_to schema (r + 1)
next_row schema objects r row were at is =
    let e : suc (r + 1) ≡ r + 1 + 1 = omega arith in
    subst (λ (n : ℕ). take n objects ≡ take (r + 1) objects ++ row ∷ []) e (take_suc objects (r + 1) row at)
    ∙ ap (λ (rows : List Entry). rows ++ row ∷ []) were
    ∙ ap (λ (x : Entry). rows_to schema r ++ x ∷ []) is
    ∙ one_more schema r

pub first_row : (schema : SchemaValue) (objects : List Entry) → take 1 objects ≡ text_row ∷ [] → take (0 + 1) objects ≡ rows_to schema 0
unfolding rows_to
first_row schema objects is = is

listed_next : (schema : SchemaValue) (r : ℕ) (o : Object) (olds : List Entry) → take 5 (object_row (r + 1) o) ≡ relation_row schema r → map (take 5) olds ≡ rows_to schema r → map (take 5) (put_row (object_row (r + 1) o) olds) ≡ rows_to schema (r + 1)
listed_next schema r o olds is were =
    let low = subst (λ (rows : List Entry). AllByRecursion (λ row. value_cmp (rowid row) (Int (pos (r + 1 + 1))) ≡ Less) rows) (sym were) (numbers_to schema r (r + 1 + 1) (omega arith)) in
    ap (map (take 5)) (put_last (object_row (r + 1) o) olds (numbers_of_front (r + 1 + 1) olds low))
    ∙ map_then olds (object_row (r + 1) o)
    ∙ ap (λ (rows : List Entry). rows ++ take 5 (object_row (r + 1) o) ∷ []) were
    ∙ ap (λ (row : Entry). rows_to schema r ++ row ∷ []) is
    ∙ one_more schema r

pub creates : (schema : SchemaValue) (old new : View) (r : ℕ) (o : Object) → Creates old new (r + 1) o → r < 256 → take 5 (object_row (r + 1) o) ≡ relation_row schema r → MakesTable schema r old new
creates schema old new r o made low is = record {
  numbered = ap (λ (v : View). v.is_numbered) made.is;
  made = ap (λ (v : View). v.trees (r + 1)) made.is ∙ tree_beside (with_tree old.trees (r + 1) []) catalog_tree (r + 1) _ (λ e. omega (arith, e, low)) ∙ tree_at old.trees (r + 1) [];
  catalog = λ were. ap (λ (v : View). map (take 5) (v.trees catalog_tree)) made.is
      ∙ ap (map (take 5)) (tree_at (with_tree old.trees (r + 1) []) catalog_tree _)
      ∙ listed_next schema r o (old.trees catalog_tree) is were;
  others = λ t apart beyond. ap (λ (v : View). v.trees t) made.is ∙ tree_beside (with_tree old.trees (r + 1) []) catalog_tree t _ beyond ∙ tree_beside old.trees (r + 1) t [] apart;
}

-- the row of an object that is described as a table of this name with this statement
pub row_of_object : (schema : SchemaValue) (r : ℕ) (o : Object) (name text : List ℕ) → description o ≡ Text (codes "table") ∷ Text name ∷ Text name ∷ Text text ∷ [] → name ≡ name_at (relation_names schema) r → text ≡ statement (name_at (relation_names schema) r) (columns_at schema r)
    → take 5 (object_row (r + 1) o) ≡ relation_row schema r
row_of_object schema r o name text described named made =
    let e : r + 1 + 1 ≡ r + 2 = omega arith in
    ap (λ (d : Entry). Int (pos (r + 1 + 1)) ∷ column d 0 ∷ column d 1 ∷ column d 2 ∷ column d 3 ∷ []) described
    ∙ ap (λ (n : ℕ). table_row n name text) e
    ∙ ap (λ (n : List ℕ). table_row (r + 2) n text) named
    ∙ ap (λ (t : List ℕ). table_row (r + 2) (name_at (relation_names schema) r) t) made

pub tables_none : (schema : SchemaValue) (first : ℕ) (v : View) → MakesTables schema first first v v
tables_none schema first v = record { numbered = refl; made = λ r from below. absurd (omega (arith, from, below)); catalog = λ up were. were; others = λ t which. refl }

pub tables_more : (schema : SchemaValue) (first r : ℕ) (old mid new : View) → first ≤ r → r < 256 → MakesTables schema first r old mid → MakesTable schema r mid new → MakesTables schema first (r + 1) old new
tables_more schema first r old mid new from low so one = record {
  numbered = one.numbered ∙ so.numbered;
  made = λ q up below. elim (cases_eq q r) [
    | inl is ↦ subst (λ (k : ℕ). new.trees (k + 1) ≡ []) (sym is) one.made
    | inr apart ↦ one.others (q + 1) (λ e. apart (omega (arith, e))) (λ e. omega (arith, e, below, low)) ∙ so.made q up (omega (arith, below, apart))
  ];
  catalog = λ up were. one.catalog (so.catalog from were);
  others = λ t which. elim which [
    | inl least ↦ one.others t (λ e. omega (arith, e, least, from)) (λ e. omega (arith, e, least, from, low)) ∙ so.others t (inl least)
    | inr (up, past, beyond) ↦ one.others t (λ e. omega (arith, e, past)) beyond ∙ so.others t (inr (from, omega (arith, past), beyond))
  ];
}

pub tables_until : (schema : SchemaValue) (first r last : ℕ) (old new : View) → last ≤ r → (first ≤ last → r ≤ last) → MakesTables schema first r old new → MakesTables schema first last old new
tables_until schema first r last old new past within so = record {
  numbered = so.numbered;
  made = λ q up below. so.made q up (omega (arith, below, past));
  catalog = λ up were. let is : r ≡ last = omega (arith, past, within up) in subst (λ (n : ℕ). listed_in new.trees ≡ rows_to schema n) is (so.catalog (omega (arith, up, past)) were);
  others = λ t which. elim which [
    | inl least ↦ so.others t (inl least)
    | inr (up, far, beyond) ↦ so.others t (inr (omega (arith, up, past), omega (arith, far, within up), beyond))
  ];
}

-- a name that none of the rows has without their last columns, none has
pub named_of_front : (name : List ℕ) (rows : List Entry) → AllByRecursion (λ r. column r 2 ≢ Text name) (map (take 5) rows) → AllByRecursion (λ r. column r 2 ≢ Text name) rows
named_of_front name [] all = tt
named_of_front name (row ∷ rows) (here, more) = (λ e. here (third row ∙ e), named_of_front name rows more)
  where
    third : (r : Entry) → column (take 5 r) 2 ≡ column r 2
    third [] = refl
    third (a ∷ []) = refl
    third (a ∷ b ∷ []) = refl
    third (a ∷ b ∷ c ∷ more) = refl

-- ---- one tree is edited

pub edits : (old new : View) (tree : ℕ) (edit : List Entry → List Entry) → SetsTree old new tree edit → Edits tree old new edit
edits old new tree edit set = record {
  numbered = ap (λ (v : View). v.is_numbered) set.is;
  own = ap (λ (v : View). v.trees tree) set.is ∙ tree_at old.trees tree _;
  others = λ t apart. ap (λ (v : View). v.trees t) set.is ∙ tree_beside old.trees tree t _ apart;
}

-- ---- the text

text_alone : (text : List ℕ) → remove_entry plain (Text text ∷ []) (text_entries text) ≡ []
text_alone text = ap (λ o. cond (not (is_eq o)) ((Text text ∷ []) ∷ []) []) (tied_itself (entry_cmp_total plain) (Text text ∷ []))

version_apart : version_tree ≢ 0
version_apart e = omega (arith, e)

pub first_text : (text : List ℕ) (old mid new : View) → Edits version_tree old mid (λ _. version_rows 1) → Edits 0 mid new (insert_entry plain (Text text ∷ [])) → WritesText None text old new
first_text text old mid new version put = record {
  numbered = put.numbered ∙ version.numbered;
  own = λ empty. put.own ∙ ap (insert_entry plain (Text text ∷ [])) (version.others 0 (λ e. version_apart (sym e)) ∙ empty);
  version = put.others version_tree version_apart ∙ version.own;
  others = λ t first beyond. put.others t first ∙ version.others t beyond;
}

pub other_text : (held text : List ℕ) (old mid new : View) → Edits 0 old mid (remove_entry plain (Text held ∷ [])) → Edits 0 mid new (insert_entry plain (Text text ∷ [])) → WritesText (Some held) text old new
other_text held text old mid new taken put = record {
  numbered = put.numbered ∙ taken.numbered;
  own = λ was. put.own ∙ ap (insert_entry plain (Text text ∷ [])) (taken.own ∙ ap (remove_entry plain (Text held ∷ [])) was ∙ text_alone held);
  version = put.others version_tree version_apart ∙ taken.others version_tree version_apart;
  others = λ t first beyond. put.others t first ∙ taken.others t first;
}

pub same_text : (held text : List ℕ) (v : View) → held ≡ text → WritesText (Some held) text v v
same_text held text v same = record { numbered = refl; own = λ was. was ∙ ap text_entries same; version = refl; others = λ t first beyond. refl }

-- ---- rows

abbrev pub PutsIn : Type 0
PutsIn = (entries : List Entry) (rows before after : List (List AValue)) → AreEntries entries before → Adds before rows after → AreEntries (with_rows plain rows entries) after

abbrev pub TakesOut : Type 0
TakesOut = (entries : List Entry) (rows before after : List (List AValue)) → AreEntries entries before → Leaves before rows after → AreEntries (without_rows plain rows entries) after

abbrev pub AreThose : List (List AValue) → List (List AValue) → Type 0
AreThose rows given = (row : List AValue) → Contains rows row ↔ Contains given row

adds : (rows given before after : List (List AValue)) (is_in : Bool) → is_in ≡ true → AreThose rows given → ChangesRows is_in given before after → Adds before rows after
adds rows given before after is_in is same changes = let made : ChangesRows true given before after = subst (λ (b : Bool). ChangesRows b given before after) is changes in λ row. (
  λ has. ⊎_elim (λ (was : Contains before row). inl was) (λ (more : Contains given row). inr ((same row).1 more)) ((made row).0 has),
  λ has. (made row).1 (⊎_elim (λ (was : Contains before row). inl was) (λ (more : Contains rows row). inr ((same row).0 more)) has),
)

leaves : (rows given before after : List (List AValue)) (is_in : Bool) → is_in ≡ false → AreThose rows given → ChangesRows is_in given before after → Leaves before rows after
leaves rows given before after is_in is same changes = let made : ChangesRows false given before after = subst (λ (b : Bool). ChangesRows b given before after) is changes in λ row. (
  λ has. let it = (made row).0 has in (it.0, λ more. it.1 ((same row).0 more)),
  λ has. (made row).1 (has.0, λ more. has.1 ((same row).1 more)),
)

pub puts : (change : Change) (rows : List (List AValue)) (old new : View) (tree : ℕ) (order : Order) → tree ≡ change.relation + 1 → PutsIn → order ≡ plain → change.relation < 256 → change.is_in ≡ true → AreThose rows change.rows → ChangesTree old new tree (with_rows order rows) → WritesTable change old new
puts change rows old new tree order at law is low way same given =
    let done : ChangesTree old new (change.relation + 1) (with_rows order rows) = subst (λ (n : ℕ). ChangesTree old new n (with_rows order rows)) at given in
    let its = change.relation + 1 in
    let found : new.trees its ≡ with_rows plain rows (old.trees its) = ap (λ (v : View). v.trees its) done ∙ tree_at old.trees its _ ∙ ap (λ (o : Order). with_rows o rows (old.trees its)) is in
    record {
      numbered = ap (λ (v : View). v.is_numbered) done;
      low = low;
      own = λ before after held changes. subst (λ (es : List Entry). AreEntries es after) (sym found) (law (old.trees its) rows before after held (adds rows change.rows before after change.is_in way same changes));
      others = λ t apart. ap (λ (v : View). v.trees t) done ∙ tree_beside old.trees its t _ apart;
    }

pub takes : (change : Change) (rows : List (List AValue)) (old new : View) (tree : ℕ) (order : Order) → tree ≡ change.relation + 1 → TakesOut → order ≡ plain → change.relation < 256 → change.is_in ≡ false → AreThose rows change.rows → ChangesTree old new tree (without_rows order rows) → WritesTable change old new
takes change rows old new tree order at law is low way same given =
    let done : ChangesTree old new (change.relation + 1) (without_rows order rows) = subst (λ (n : ℕ). ChangesTree old new n (without_rows order rows)) at given in
    let its = change.relation + 1 in
    let found : new.trees its ≡ without_rows plain rows (old.trees its) = ap (λ (v : View). v.trees its) done ∙ tree_at old.trees its _ ∙ ap (λ (o : Order). without_rows o rows (old.trees its)) is in
    record {
      numbered = ap (λ (v : View). v.is_numbered) done;
      low = low;
      own = λ before after held changes. subst (λ (es : List Entry). AreEntries es after) (sym found) (law (old.trees its) rows before after held (leaves rows change.rows before after change.is_in way same changes));
      others = λ t apart. ap (λ (v : View). v.trees t) done ∙ tree_beside old.trees its t _ apart;
    }

pub changes_none : (v : View) → WritesTables [] v v
changes_none v = refl

pub changes_more : (changes : List Change) (change : Change) (old mid new : View) → WritesTables changes old mid → WritesTable change mid new → WritesTables (changes ++ change ∷ []) old new
changes_more [] change old mid new same one = (new, subst (λ (v : View). WritesTable change v new) same one, refl)
changes_more (first ∷ changes) change old mid new (between, head, tail) one = (between, head, changes_more changes change between mid new tail one)
