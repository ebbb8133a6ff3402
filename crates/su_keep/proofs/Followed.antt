-- What a group leads to: the trees that it has written show the database after it.
use Rattle.std.proofs.Common.{◌≡◌, ◌≢◌, ◌⊎◌, inl, inr, ⊎_elim, ℕ, zero, suc, ◌+◌, ◌-◌, ◌<◌, ◌≤◌, List, [], ◌∷◌, ◌++◌, Contains, map, take, get_or, length, length-append, Option, Some, None, refl, sym, ap, subst, ◌∙◌, arith}
use Rattle.std.proofs.lemmas.Bool.{cases_eq, cases_lt}
use Rattle.std.proofs.lemmas.List.{get_or_past}
use Rattle.std.proofs.lemmas.Option.{slice_get-get_or, get_or_from_slice_get, slice_get_within}
use Rattle.sqlite_value.specs.Order.{Row as Entry}
use Rattle.sqlite_trees.specs.Tree.{Trees}
use Rattle.sqlite_trees.specs.View.{View}
use Rattle.sqlite_trees.specs.Objects.{catalog_tree, version_tree, version_rows}
use Rattle.su_base.specs.declared.values.Value.{Value as AValue}
use Rattle.su_base.specs.declared.values.Column.{Column}
use Rattle.su_base.proofs.Items.{Contains-nil, Contains-head}
use Rattle.su_rel.specs.Stored.{Stored}
use Rattle.su_state.specs.DatabaseValue.{DatabaseValue, rows_of, table_of}
use Rattle.su_schema.specs.SchemaValue.{SchemaValue, RelationEntry}
use Rattle.su_schema.specs.Entries.{relation_names, relation_columns}
use Rattle.su_schema.specs.Known.{columns_at}
use Rattle.su_ddl.specs.Shown.{schema_text}
use Rattle.su_changes.specs.declared.changes.Change.{Change}
use Rattle.su_changes.specs.Changes.{Rows, AreSame, MakesChanges}
use Rattle.su_changes.specs.Extensions.{GoesOn}
use Rattle.su_entries.specs.Entries.{entry_of}
use Rattle.su_entries.specs.TreeRows.{AreEntries}
use Rattle.su_keep.specs.Listed.{name_in_file, name_at, statement, table_row, text_row, relation_row, rows_to}
use Rattle.su_keep.specs.Shown.{text_entries, listed_in, AreEmptyPast, Shows, ShowsKept}
use Rattle.su_keep.specs.Kept.{text_kept, relations_kept, rows_kept, ExtendsKept, Leads, IsReadAgain}
use Rattle.su_keep.specs.inside.Writes.{MakesTables, WritesTables, WritesGroup, held_entries, version_after}

-- each relation's table has its rows
abbrev pub HoldRows : ℕ → Trees → Rows → Type 0
HoldRows n trees rows = (r : ℕ) → r < n → AreEntries (trees (r + 1)) (rows r)

pub entries_same : (entries : List Entry) (a b : List (List AValue)) → AreSame a b → AreEntries entries a → AreEntries entries b
entries_same entries a b same held = record {
  sorted = held.sorted;
  each = held.each;
  same = λ row. (λ c. (same row).1 ((held.same row).0 c), λ c. (held.same row).1 ((same row).0 c));
}

no_entries : (rows : List (List AValue)) → rows ≡ [] → AreEntries [] rows
no_entries rows none = subst (λ (rs : List (List AValue)). AreEntries [] rs) (sym none) (record { sorted = []; each = refl; same = λ row. (λ c. c, λ c. c) })

rows_follow : (changes : List Change) (old new : View) (n : ℕ) (before after : Rows) → WritesTables changes old new → HoldRows n old.trees before → MakesChanges before changes after → HoldRows n new.trees after
rows_follow [] old new n before after same held made = λ r below.
    subst (λ (v : View). AreEntries (v.trees (r + 1)) (after r)) (sym same) (entries_same (old.trees (r + 1)) (before r) (after r) (made r) (held r below))
rows_follow (change ∷ changes) old new n before after (mid, one, more) held (between, (own, others), later) = rows_follow changes mid new n between after more (λ r below. elim (cases_eq r change.relation) [
  | inl is ↦ subst (λ (k : ℕ). AreEntries (mid.trees (k + 1)) (between k)) (sym is) (one.own (before change.relation) (between change.relation) (subst (λ (k : ℕ). AreEntries (old.trees (k + 1)) (before k)) is (held r below)) own)
  | inr apart ↦ subst (λ (es : List Entry). AreEntries es (between r)) (sym (one.others (r + 1) (λ e. apart (omega (arith, e))))) (entries_same (old.trees (r + 1)) (before r) (between r) (others r apart) (held r below))
]) later

rows_beside : (changes : List Change) (old new : View) (t : ℕ) → (t ≡ 0) ⊎ (256 < t) → WritesTables changes old new → new.trees t ≡ old.trees t
rows_beside [] old new t which same = ap (λ (v : View). v.trees t) same
rows_beside (change ∷ changes) old new t which (mid, one, more) = rows_beside changes mid new t which more
    ∙ one.others t (⊎_elim (λ (is : t ≡ 0). λ (e : t ≡ change.relation + 1). omega (arith, is, e)) (λ (past : 256 < t). λ (e : t ≡ change.relation + 1). omega (arith, past, e, one.low)) which)

rows_numbered : (changes : List Change) (old new : View) → WritesTables changes old new → new.is_numbered ≡ old.is_numbered
rows_numbered [] old new same = ap (λ (v : View). v.is_numbered) same
rows_numbered (change ∷ changes) old new (mid, one, more) = rows_numbered changes mid new more ∙ one.numbered

pub group_numbered : (schema : SchemaValue) (first last : ℕ) (held : Option (List ℕ)) (text : List ℕ) (changes : List Change) (old new : View) → WritesGroup schema first last held text changes old new → new.is_numbered ≡ old.is_numbered
group_numbered schema first last held text changes old new group = rows_numbered changes group.with_text new group.rows ∙ group.text.numbered ∙ group.tables.numbered

-- ---- what is kept

pub kept_rows : (kept : Option DatabaseValue) (trees : Trees) → ShowsKept trees kept → HoldRows (relations_kept kept) trees (rows_kept kept)
kept_rows None trees shows = λ r below. absurd (omega (arith, below))
kept_rows (Some db) trees shows = λ r below. shows.rows r (table_of db r) (slice_get-get_or db.tables r _ below)

kept_past : (kept : Option DatabaseValue) (r : ℕ) → relations_kept kept ≤ r → rows_kept kept r ≡ []
kept_past None r past = refl
kept_past (Some db) r past = ap (λ (t : Stored). t.rows) (get_or_past db.tables r _ past)

kept_text : (kept : Option DatabaseValue) (trees : Trees) → ShowsKept trees kept → trees 0 ≡ held_entries (text_kept kept)
kept_text None trees shows = shows.text
kept_text (Some db) trees shows = shows.text

kept_version : (kept : Option DatabaseValue) (trees : Trees) → ShowsKept trees kept → version_after (text_kept kept) (trees version_tree) ≡ version_rows 1
kept_version None trees shows = refl
kept_version (Some db) trees shows = shows.version

kept_others : (kept : Option DatabaseValue) (trees : Trees) → ShowsKept trees kept → AreEmptyPast (relations_kept kept) trees
kept_others None trees shows = shows.others
kept_others (Some db) trees shows = shows.others

-- the tables of the first relations are listed so under the schema that goes on behind theirs
slice_front : {X : Type 0} (xs more : List X) (r : ℕ) (d : X) → r < length xs → get_or (xs ++ more) r d ≡ get_or xs r d
slice_front [] more r d below = absurd (omega (arith, below))
slice_front (x ∷ xs) more zero d below = refl
slice_front (x ∷ xs) more (suc r) d below = slice_front xs more r d (omega (arith, below))

take_front : {X : Type 0} (xs more : List X) (r : ℕ) → r ≤ length xs → take r (xs ++ more) ≡ take r xs
take_front xs more zero within = refl
take_front [] more (suc r) within = absurd (omega (arith, within))
take_front (x ∷ xs) more (suc r) within = ap (λ ys. x ∷ ys) (take_front xs more r (omega (arith, within)))

map_front : {X Y : Type 0} (f : X → Y) (xs more : List X) → map f (xs ++ more) ≡ map f xs ++ map f more
map_front f [] more = refl
map_front f (x ∷ xs) more = ap (λ ys. f x ∷ ys) (map_front f xs more)

length_map : {X Y : Type 0} (f : X → Y) (xs : List X) → length (map f xs) ≡ length xs
length_map f [] = refl
length_map f (x ∷ xs) = ap suc (length_map f xs)

same_name_at : (names more : List (List ℕ)) (r : ℕ) → r < length names → name_at (names ++ more) r ≡ name_at names r
same_name_at names more r below =
    ap (λ (earlier : List (List ℕ)). name_in_file earlier r (get_or (names ++ more) r [])) (take_front names more r (omega (arith, below)))
    ∙ ap (λ (name : List ℕ). name_in_file (take r names) r name) (slice_front names more r [] below)

same_row : (old new : SchemaValue) (r : ℕ) → GoesOn old.relations new.relations → r < length old.relations → relation_row old r ≡ relation_row new r
same_row old new r (more, is) below =
    let names : relation_names new ≡ relation_names old ++ map (λ (e : RelationEntry). e.name) more = ap (map (λ (e : RelationEntry). e.name)) is ∙ map_front (λ (e : RelationEntry). e.name) old.relations more in
    let all : relation_columns new ≡ relation_columns old ++ map (λ (e : RelationEntry). e.columns) more = ap (map (λ (e : RelationEntry). e.columns)) is ∙ map_front (λ (e : RelationEntry). e.columns) old.relations more in
    let name : name_at (relation_names new) r ≡ name_at (relation_names old) r = ap (λ (ns : List (List ℕ)). name_at ns r) names
    ∙ same_name_at (relation_names old) (map (λ (e : RelationEntry). e.name) more) r (omega (arith, below, length_map (λ (e : RelationEntry). e.name) old.relations)) in
    let columns : columns_at new r ≡ columns_at old r = ap (λ (cs : List (List Column)). get_or cs r []) all
    ∙ slice_front (relation_columns old) (map (λ (e : RelationEntry). e.columns) more) r [] (omega (arith, below, length_map (λ (e : RelationEntry). e.columns) old.relations)) in
    ap (λ (n : List ℕ). table_row (r + 2) n (statement n (columns_at old r))) (sym name)
    ∙ ap (λ (cs : List Column). table_row (r + 2) (name_at (relation_names new) r) (statement (name_at (relation_names new) r) cs)) (sym columns)

same_rows_to : (old new : SchemaValue) (r : ℕ) → GoesOn old.relations new.relations → r ≤ length old.relations → rows_to old r ≡ rows_to new r
unfolding rows_to
same_rows_to old new zero on within = refl
same_rows_to old new (suc r) on within =
    ap (λ (rows : List Entry). rows ++ relation_row old r ∷ []) (same_rows_to old new r on (omega (arith, within)))
    ∙ ap (λ (row : Entry). rows_to new r ++ row ∷ []) (same_row old new r on (omega (arith, within)))

first_rows : (schema : SchemaValue) → rows_to schema 0 ≡ text_row ∷ []
unfolding rows_to
first_rows schema = refl

kept_catalog : (kept : Option DatabaseValue) (after : DatabaseValue) (trees : Trees) → ShowsKept trees kept → IsReadAgain kept → ExtendsKept kept after → listed_in trees ≡ rows_to after.schema (relations_kept kept)
kept_catalog None after trees shows read on = shows.catalog ∙ sym (first_rows after.schema)
kept_catalog (Some db) after trees shows read on =
    shows.catalog ∙ same_rows_to db.schema after.schema (length db.schema.relations) on.relations (omega arith) ∙ ap (rows_to after.schema) (sym read.tables)

length_on : {X : Type 0} (old new : List X) → GoesOn old new → length old ≤ length new
length_on old new (more, is) = let sum : length new ≡ length old + length more = ap length is ∙ length-append old more in omega (arith, sum)

pub kept_grows : (kept : Option DatabaseValue) (after : DatabaseValue) → IsReadAgain kept → ExtendsKept kept after → length after.tables ≡ length after.schema.relations → relations_kept kept ≤ length after.tables
kept_grows None after read on many = omega arith
kept_grows (Some db) after read on many = omega (arith, length_on db.schema.relations after.schema.relations on.relations, read.tables, many)

-- a table that is neither one of the first nor one of the last has no row
past_tables : (kept : Option DatabaseValue) (schema : SchemaValue) (last r : ℕ) (old mid : View) → ShowsKept old.trees kept → relations_kept kept ≤ last → MakesTables schema (relations_kept kept) last old mid → relations_kept kept ≤ r → r < 256 → mid.trees (r + 1) ≡ []
past_tables kept schema last r old mid shows grows tables past low = elim (cases_lt r last) [
  | inl under ↦ tables.made r past under
  | inr over ↦ tables.others (r + 1) (inr (grows, omega (arith, over), λ e. omega (arith, e, low))) ∙ kept_others kept old.trees shows (r + 1) (omega (arith, past)) (omega (arith, low))
]

-- each table has the rows of its relation before the changes, those of new relations have none
held_tables : (kept : Option DatabaseValue) (schema : SchemaValue) (last : ℕ) (old mid : View) → ShowsKept old.trees kept → relations_kept kept ≤ last → MakesTables schema (relations_kept kept) last old mid → HoldRows 256 mid.trees (rows_kept kept)
held_tables kept schema last old mid shows grows tables = λ r below. elim (cases_lt r (relations_kept kept)) [
  | inl less ↦ subst (λ (es : List Entry). AreEntries es (rows_kept kept r)) (sym (tables.others (r + 1) (inl (omega (arith, less))))) (kept_rows kept old.trees shows r less)
  | inr past ↦ subst (λ (es : List Entry). AreEntries es (rows_kept kept r)) (sym (past_tables kept schema last r old mid shows grows tables past below)) (no_entries (rows_kept kept r) (kept_past kept r past))
]

nothing_sorted : (sorted : List (List AValue)) → ((row : List AValue) → ¬ Contains sorted row) → sorted ≡ []
nothing_sorted [] none = refl
nothing_sorted (row ∷ rows) none = absurd (none row (Contains-head row rows))

entries_none : (entries : List Entry) (rows : List (List AValue)) → rows ≡ [] → AreEntries entries rows → entries ≡ []
entries_none entries rows none held =
    held.each ∙ ap (map entry_of) (nothing_sorted held.sorted (λ row has. Contains-nil row (subst (λ (rs : List (List AValue)). Contains rs row) none ((held.same row).0 has))))

module _ (kept : Option DatabaseValue) (changes : List Change) (after : DatabaseValue) (held : Option (List ℕ)) (text : List ℕ) (old new : View)
    (group : WritesGroup after.schema (relations_kept kept) (length after.tables) (text_kept kept) text changes old new) (shows : ShowsKept old.trees kept) (read : IsReadAgain kept)
    (many : length after.tables ≡ length after.schema.relations) (few : length after.tables ≤ 256) (leads : Leads kept changes after) where
  grows : relations_kept kept ≤ length after.tables
  grows = kept_grows kept after read leads.schema many

  begun : HoldRows 256 group.with_text.trees (rows_kept kept)
  begun r below =
      subst (λ (es : List Entry). AreEntries es (rows_kept kept r)) (sym (group.text.others (r + 1) (λ e. omega (arith, e)) (λ e. omega (arith, e, below))))
      (held_tables kept after.schema (length after.tables) old group.with_tables shows grows group.tables r below)

  ended : HoldRows 256 new.trees (λ r. rows_of after r)
  ended = rows_follow changes group.with_text new 256 (rows_kept kept) (λ q. rows_of after q) group.rows begun leads.rows

  beside : (t : ℕ) → 256 < t → t ≢ catalog_tree → t ≢ version_tree → new.trees t ≡ old.trees t
  beside t past beyond other = rows_beside changes group.with_text new t (inr past) group.rows
      ∙ group.text.others t (λ e. omega (arith, e, past)) other
      ∙ group.tables.others t (inr (grows, omega (arith, past, few), beyond))

  pub group_shows : text ≡ schema_text after.schema → Shows new.trees after
  group_shows is = record {
    text = rows_beside changes group.with_text new 0 (inl refl) group.rows ∙ group.text.own (group.tables.others 0 (inl (omega arith)) ∙ kept_text kept old.trees shows) ∙ ap text_entries is;
    rows = λ r table at. subst (λ (t : Stored). AreEntries (new.trees (r + 1)) t.rows) (get_or_from_slice_get after.tables r table _ at) (ended r (omega (arith, slice_get_within after.tables r table at, few)));
    version = rows_beside changes group.with_text new version_tree (inr (omega arith)) group.rows ∙ group.text.version
        ∙ ap (version_after (text_kept kept)) (group.tables.others version_tree (inr (grows, omega (arith, few), λ e. omega (arith, e))))
        ∙ kept_version kept old.trees shows;
    catalog = ap (map (take 5)) (rows_beside changes group.with_text new catalog_tree (inr (omega arith)) group.rows ∙ group.text.others catalog_tree (λ e. omega (arith, e)) (λ e. omega (arith, e)))
        ∙ group.tables.catalog grows (kept_catalog kept after old.trees shows read leads.schema)
        ∙ ap (rows_to after.schema) many;
    others = λ t past low. elim (cases_lt 256 t) [
      | inl far ↦ beside t far (λ e. omega (arith, e, low)) (λ e. omega (arith, e, low)) ∙ kept_others kept old.trees shows t (omega (arith, past, grows)) low
      | inr near ↦ let r = t - 1 in let at : r + 1 ≡ t = omega (arith, past) in
          subst (λ (k : ℕ). new.trees k ≡ []) at (entries_none (new.trees (r + 1)) (rows_of after r) (ap (λ (x : Stored). x.rows) (get_or_past after.tables r _ (omega (arith, past)))) (ended r (omega (arith, near, past))))
    ];
  }
