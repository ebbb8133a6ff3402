-- What an open finds: rows that are loaded, and what a keeper then stands at.
use Rattle.std.proofs.Common.{◌≡◌, ◌⊎◌, inl, inr, ⊎_elim, ◌↔◌, ℕ, zero, suc, ◌+◌, ◌<◌, ◌≤◌, Bool, true, false, List, [], ◌∷◌, length, map, get_or, slice_get, unwrap_or, Contains, take, Option, Some, None, Ok, IsTrue, pos, find, if◌then◌else◌, refl, sym, ap, subst, ◌∙◌, arith}
use Rattle.std.proofs.lemmas.Bool.{cases_eq}
use Rattle.std.proofs.lemmas.Option.{get_or_from_slice_get, slice_get_within, unwrap_or-slice_get}
use Rattle.std.specs.List.{AllByRecursion}
use Rattle.std.specs.Ordering.{is_eq}
use Rattle.std.specs.declared.cmp.Ordering.TheVariants.{Less}
use Rattle.sqlite_value.specs.Order.{Row as Entry, column, value_cmp}
use Rattle.sqlite_value.specs.declared.value.Value.TheVariants.{Int}
use Rattle.sqlite_trees.specs.declared.store.Shape.{Shape}
use Rattle.sqlite_trees.specs.declared.store.Shape.TheVariants.{Absent, Table, Index, Pageless, FrozenTable, FrozenIndex}
use Rattle.sqlite_trees.specs.Tree.{Trees, rowid, has_rowid}
use Rattle.sqlite_trees.specs.View.{View, IsOrdered, IsShaped}
use Rattle.sqlite_trees.specs.Objects.{catalog_tree, version_tree, version_rows, shape_code, number_in, row_for, IsListed}
use Rattle.su_base.specs.declared.values.Value.{Value as AValue}
use Rattle.su_base.specs.declared.values.Column.{Column}
use Rattle.su_base.proofs.Items.{Contains-nil, Contains-head, Contains-later, Contains-cases}
use Rattle.su_rel.specs.Stored.{Stored}
use Rattle.su_schema.specs.SchemaValue.{SchemaValue}
use Rattle.su_schema.specs.Entries.{relation_columns}
use Rattle.su_ddl.specs.Files.{Reads}
use Rattle.su_ddl.specs.Shown.{schema_text}
use Rattle.su_state.specs.DatabaseValue.{DatabaseValue, rows_of, empty_tables}
use Rattle.su_state.specs.RowChanges.{Inserts}
use Rattle.su_state.specs.Loads.{InsertsAll, Loads}
use Rattle.su_state.proofs.Inserts.{changes_by_inserts}
use Rattle.su_entries.specs.Entries.{entry_of}
use Rattle.su_entries.specs.Reading.{MovesCursors}
use Rattle.su_entries.specs.TreeRows.{AreEntries}
use Rattle.su_keep.specs.Listed.{text_row, rows_to, catalog_of}
use Rattle.su_keep.specs.Shown.{text_entries, listed_in, AreEmptyPast, Shows, ShowsKept}
use Rattle.su_keep.specs.Kept.{StandsAt}
use Rattle.su_keep.specs.inside.Writes.{held_entries}
use Rattle.su_keep.specs.inside.Stores.{database_in}
use Rattle.su_keep.specs.inside.Finds.{FillsTable, Fills, FindsKept}
use Rattle.su_keep.proofs.Written.{numbers_to, numbers_of_front}

one_inserted : (db new : DatabaseValue) (r : ℕ) (row : List AValue) (is_new : Bool) → Inserts db r row (Ok is_new) new → (other : List AValue) → Contains (rows_of new r) other ↔ (Contains (rows_of db r) other ⊎ (other ≡ row))
one_inserted db new r row true done other = done.1.rows other
one_inserted db new r row false done other = subst (λ (d : DatabaseValue). Contains (rows_of d r) other ↔ (Contains (rows_of db r) other ⊎ (other ≡ row))) (sym done.1) (
  λ has. inl has,
  λ has. ⊎_elim (λ (was : Contains (rows_of db r) other). was) (λ (e : other ≡ row). subst (Contains (rows_of db r)) (sym e) done.0.1) has,
)

inserted : (rows : List (List AValue)) (db new : DatabaseValue) (r count : ℕ) → InsertsAll db r rows count new → (row : List AValue) → Contains (rows_of new r) row ↔ (Contains (rows_of db r) row ⊎ Contains rows row)
inserted [] db new r count (none, same) row = subst (λ (d : DatabaseValue). Contains (rows_of d r) row ↔ (Contains (rows_of db r) row ⊎ Contains [] row)) (sym same) (
  λ has. inl has,
  λ has. ⊎_elim (λ (was : Contains (rows_of db r) row). was) (λ (c : Contains [] row). absurd (Contains-nil row c)) has,
)
inserted (first ∷ rows) db new r count (between, is_new, more, head, tail, counted) row =
    let one = one_inserted db between r first is_new head row in
    let rest = inserted rows between new r more tail row in (
      λ has. ⊎_elim
          (λ (was : Contains (rows_of between r) row). ⊎_elim
          (λ (w : Contains (rows_of db r) row). inl w)
          (λ (e : row ≡ first). inr (subst (Contains (first ∷ rows)) (sym e) (Contains-head first rows)))
          (one.0 was))
          (λ (later : Contains rows row). inr (Contains-later first rows row later))
          (rest.0 has),
      λ has. rest.1 (⊎_elim
          (λ (w : Contains (rows_of db r) row). inl (one.1 (inl w)))
          (λ (c : Contains (first ∷ rows) row). ⊎_elim
          (λ (e : first ≡ row). inl (one.1 (inr (sym e))))
          (λ (later : Contains rows row). inr later)
          (Contains-cases first rows row c))
          has),
    )

no_schema : SchemaValue
no_schema = record { attributes = []; relations = []; objects = []; fds = []; declared = [] }

abbrev blank : Stored
blank = record { width = 0; rows = [] }

same_rows : (old new : DatabaseValue) (q : ℕ) → slice_get new.tables q ≡ slice_get old.tables q → rows_of new q ≡ rows_of old q
same_rows old new q same = ap (λ (t : Stored). t.rows) (sym (unwrap_or-slice_get new.tables q blank) ∙ ap (λ (o : Option Stored). unwrap_or o blank) same ∙ unwrap_or-slice_get old.tables q blank)

fills_at : (r : ℕ) (trees : Trees) (rows : List (List AValue)) (count : ℕ) (old new : DatabaseValue) → map entry_of rows ≡ trees (r + 1) → InsertsAll old r rows count new → FillsTable r trees old new
fills_at r trees rows count old new read all = record {
  schema = (changes_by_inserts rows old new r count all).schema;
  own = λ empty. record {
    sorted = rows;
    each = sym read;
    same = λ row. (
      λ c. (inserted rows old new r count all row).1 (inr c),
      λ c. ⊎_elim
          (λ (was : Contains (rows_of old r) row). absurd (Contains-nil row (subst (λ (rs : List (List AValue)). Contains rs row) empty was)))
          (λ (more : Contains rows row). more)
          ((inserted rows old new r count all row).0 c),
    );
  };
  others = λ q apart. same_rows old new q ((changes_by_inserts rows old new r count all).others q apart);
}

pub fills_table : (r tree : ℕ) (trees : Trees) (rows : List (List AValue)) (count : ℕ) (old new : DatabaseValue) → tree ≡ r + 1 → map entry_of rows ≡ trees tree → Loads old r rows (Ok count) new → FillsTable r trees old new
fills_table r tree trees rows count old new at read all = fills_at r trees rows count old new (subst (λ (n : ℕ). map entry_of rows ≡ trees n) at read) all

pub loads_schema : (r : ℕ) (rows : List (List AValue)) (count : ℕ) (old new : DatabaseValue) → Loads old r rows (Ok count) new → new.schema ≡ old.schema
loads_schema r rows count old new all = (changes_by_inserts rows old new r count all).schema

pub fills_none : (trees : Trees) (db : DatabaseValue) → Fills 0 trees db db
fills_none trees db = record { schema = refl; rows = λ r below. absurd (omega (arith, below)); others = λ r past. refl }

pub fills_more : (r : ℕ) (v w : View) (first mid new : DatabaseValue) → ((q : ℕ) → rows_of first q ≡ []) → MovesCursors v w → Fills r v.trees first mid → FillsTable r w.trees mid new → Fills (r + 1) v.trees first new
fills_more r v w first mid new empty moves so one = record {
  schema = one.schema ∙ so.schema;
  rows = λ q below. elim (cases_eq q r) [
    | inl is ↦ subst (λ (k : ℕ). AreEntries (v.trees (k + 1)) (rows_of new k)) (sym is)
        (subst (λ (t : Trees). AreEntries (t (r + 1)) (rows_of new r)) (ap (λ (u : View). u.trees) moves) (one.own (so.others r (λ less. omega (arith, less)) ∙ empty r)))
    | inr apart ↦ subst (λ (rows : List (List AValue)). AreEntries (v.trees (q + 1)) rows) (sym (one.others q apart)) (so.rows q (omega (arith, below, apart)))
  ];
  others = λ q past. one.others q (λ e. past (omega (arith, e))) ∙ so.others q (λ less. past (omega (arith, less)));
}

pub fills_rows : (r last : ℕ) (trees : Trees) (old new : DatabaseValue) → last ≤ r → Fills r trees old new → (q : ℕ) → q < last → AreEntries (trees (q + 1)) (rows_of new q)
fills_rows r last trees old new far so q below = so.rows q (omega (arith, far, below))

pub filled_rows : (trees : Trees) (old db : DatabaseValue) → ((r : ℕ) → r < length old.schema.relations → AreEntries (trees (r + 1)) (rows_of db r)) → db.schema ≡ old.schema → length db.tables ≡ length db.schema.relations → (r : ℕ) → r < length db.tables
    → AreEntries (trees (r + 1)) (rows_of db r)
filled_rows trees old db each same many r below = each r (subst (λ (n : ℕ). r < n) (many ∙ ap (λ (s : SchemaValue). length s.relations) same) below)

pub moves_none : (v : View) → MovesCursors v v
moves_none v = refl

pub moves_then : (a b c : View) → MovesCursors a b → MovesCursors b c → MovesCursors a c
moves_then a b c first second = second ∙ ap (λ (v : View). record v { cursors = c.cursors }) first

abbrev stored_none : List Column → Stored
stored_none columns = record { width = length columns; rows = [] }

none_in : (columns : List (List Column)) (r : ℕ) → (get_or (map stored_none columns) r (record { width = 0; rows = [] })).rows ≡ []
none_in [] zero = refl
none_in [] (suc r) = refl
none_in (cs ∷ columns) zero = refl
none_in (cs ∷ columns) (suc r) = none_in columns r

pub no_rows : (schema : SchemaValue) (db : DatabaseValue) (r : ℕ) → db.tables ≡ empty_tables schema → rows_of db r ≡ []
no_rows schema db r empty = ap (λ (tables : List Stored). (get_or tables r (record { width = 0; rows = [] })).rows) empty ∙ none_in (relation_columns schema) r

pub absent_of_code : (shape : Shape) → shape_code shape ≡ 0 → shape ≡ Absent
absent_of_code Absent is = refl
absent_of_code Table is = absurd (omega (arith, is))
absent_of_code (Index o) is = absurd (omega (arith, is))
absent_of_code Pageless is = absurd (omega (arith, is))
absent_of_code FrozenTable is = absurd (omega (arith, is))
absent_of_code (FrozenIndex o) is = absurd (omega (arith, is))

not_listed : (n : ℕ) (rows : List Entry) → AllByRecursion (λ row. value_cmp (rowid row) (Int (pos n)) ≡ Less) rows → find (has_rowid (pos n)) rows ≡ None
not_listed n [] all = refl
not_listed n (row ∷ rows) (here, more) = ap (λ o. if is_eq o then Some row else find (has_rowid (pos n)) rows) here ∙ not_listed n rows more

-- a tree that is not listed has no row
pub none_past : (schema : SchemaValue) (n : ℕ) (v : View) → IsListed (v.trees catalog_tree) v.shape v.reals → IsOrdered v.shape v.trees → listed_in v.trees ≡ rows_to schema n → AreEmptyPast n v.trees
none_past schema n v listed ordered is = λ t past low.
    let numbers = subst (λ (rows : List Entry). AllByRecursion (λ row. value_cmp (rowid row) (Int (pos (t + 1))) ≡ Less) rows) (sym is) (numbers_to schema n (t + 1) (omega (arith, past))) in
    let none : row_for (v.trees catalog_tree) t ≡ [] = ap (λ (o : Option Entry). unwrap_or o []) (not_listed (t + 1) (v.trees catalog_tree) (numbers_of_front (t + 1) (v.trees catalog_tree) numbers)) in
    let code : shape_code (v.shape t) ≡ 0 = listed.shapes t (λ e. omega (arith, e, low)) (λ e. omega (arith, e, low)) ∙ ap (λ (row : Entry). number_in (column row 5)) none in
    subst (λ (s : Shape). IsShaped s (v.trees t)) (absent_of_code (v.shape t) code) (ordered t)

pub finds_none : (v : View) → v.trees 0 ≡ [] → v.trees version_tree ≡ version_rows 0 → listed_in v.trees ≡ text_row ∷ [] → IsListed (v.trees catalog_tree) v.shape v.reals → IsOrdered v.shape v.trees → FindsKept v.trees None
unfolding rows_to
finds_none v empty version catalog listed ordered = record {
  text = empty;
  version = version;
  catalog = catalog;
  others = none_past no_schema 0 v listed ordered catalog;
}

pub finds : (trees : Trees) (db : DatabaseValue) (schema : SchemaValue) (text : List ℕ) → listed_in trees ≡ catalog_of schema → AreEmptyPast (length schema.relations) trees → trees 0 ≡ held_entries (Some text) → trees version_tree ≡ version_rows 1 → schema_text schema ≡ text → Reads text (Ok schema) → db.schema ≡ schema → length db.tables ≡ length schema.relations
    → ((r : ℕ) → r < length db.tables → AreEntries (trees (r + 1)) (rows_of db r)) → FindsKept trees (Some (db, text))
finds trees db schema text catalog others found version is reads same tables rows =
    let its : schema_text db.schema ≡ text = ap schema_text same ∙ is in (
      record {
        text = found ∙ ap text_entries (sym its);
        rows = λ r table at. subst (λ (t : Stored). AreEntries (trees (r + 1)) t.rows) (get_or_from_slice_get db.tables r table _ at) (rows r (slice_get_within db.tables r table at));
        version = version;
        catalog = catalog ∙ ap catalog_of (sym same);
        others = subst (λ (n : ℕ). AreEmptyPast n trees) (sym tables) others;
      },
      record {
        tables = tables ∙ ap (λ (s : SchemaValue). length s.relations) (sym same);
        again = subst (λ (t : List ℕ). Reads t (Ok db.schema)) (sym its) (subst (λ (s : SchemaValue). Reads text (Ok s)) (sym same) reads);
      },
      sym its,
    )

pub stands_found : (v w : View) (db : DatabaseValue) (text : List ℕ) (relations : ℕ) → MovesCursors v w → FindsKept v.trees (Some (db, text)) → v.trees ≡ v.committed → IsTrue v.is_open → v.is_broken ≡ false → relations ≡ length db.tables → StandsAt w (Some text) relations false (Some db)
stands_found v w db text relations moves found settled is_open sound many = record {
  text = ap Some found.2;
  relations = many;
  fit = refl;
  read = found.1;
  is_open = subst IsTrue (sym (ap (λ (u : View). u.is_open) moves)) is_open;
  sound = ap (λ (u : View). u.is_broken) moves ∙ sound;
  settled = ap (λ (u : View). u.trees) moves ∙ settled ∙ sym (ap (λ (u : View). u.committed) moves);
  shows = subst (λ (t : Trees). Shows t db) (settled ∙ sym (ap (λ (u : View). u.committed) moves)) found.0;
}

pub stands_new : (v w : View) → MovesCursors v w → FindsKept v.trees None → v.trees ≡ v.committed → IsTrue v.is_open → v.is_broken ≡ false → StandsAt w None 0 false None
stands_new v w moves found settled is_open sound = record {
  text = refl;
  relations = refl;
  fit = refl;
  read = tt;
  is_open = subst IsTrue (sym (ap (λ (u : View). u.is_open) moves)) is_open;
  sound = ap (λ (u : View). u.is_broken) moves ∙ sound;
  settled = ap (λ (u : View). u.trees) moves ∙ settled ∙ sym (ap (λ (u : View). u.committed) moves);
  shows = subst (λ (t : Trees). ShowsKept t None) (settled ∙ sym (ap (λ (u : View). u.committed) moves)) found;
}

pub shows_found : (trees : Trees) (found : Option (DatabaseValue × List ℕ)) → FindsKept trees found → ShowsKept trees (database_in found)
shows_found trees None shows = shows
shows_found trees (Some found) shows = shows.0

pub one_object : (objects : List Entry) → take 1 objects ≡ text_row ∷ [] → length objects ≡ 1 → objects ≡ text_row ∷ []
one_object [] first one = absurd (omega (arith, one))
one_object (row ∷ []) first one = first
one_object (row ∷ next ∷ rows) first one = absurd (omega (arith, one))
