-- Where a keeper stands behind a group.
use Rattle.std.proofs.Common.{◌≡◌, ℕ, ◌≤◌, Bool, true, false, List, [], length, Option, Some, None, Ok, Result, Err, IsTrue, ◌+◌, ◌<◌, refl, sym, ap, subst, ◌∙◌}
use Rattle.std.proofs.lemmas.Bool.{true≢false}
use Rattle.std.proofs.lemmas.Option.{get_or_from_slice_get, slice_get_within}
use Rattle.std.specs.Prelude.{OnErr}
use Rattle.sqlite_trees.specs.Tree.{Trees}
use Rattle.sqlite_trees.specs.View.{View, Commits}
use Rattle.su_rel.specs.Stored.{Stored}
use Rattle.su_schema.specs.SchemaValue.{SchemaValue}
use Rattle.su_state.specs.DatabaseValue.{DatabaseValue, rows_of}
use Rattle.su_ddl.specs.declared.faults.DdlFault.{DdlFault}
use Rattle.su_ddl.specs.Files.{Reads}
use Rattle.su_ddl.specs.Shown.{schema_text}
use Rattle.su_ddl.proofs.Files.{one_outcome}
use Rattle.su_changes.specs.declared.changes.Change.{Change}
use Rattle.su_entries.specs.TreeRows.{AreEntries}
use Rattle.su_keep.specs.Listed.{catalog_of}
use Rattle.su_keep.specs.Shown.{text_entries, AreEmptyPast, Shows, ShowsKept}
use Rattle.su_keep.specs.Kept.{relations_kept, Leads, IsRead, StandsAt}
use Rattle.su_keep.specs.inside.Writes.{WritesGroup}
use Rattle.su_keep.proofs.Followed.{group_shows, kept_rows, entries_same}

-- what is written shows the database
pub written_shows : (kept : Option DatabaseValue) (changes : List Change) (after : DatabaseValue) (schema : SchemaValue) (first last : ℕ) (held : Option (List ℕ)) (failed : Bool) (text : List ℕ) (old mid : View) → StandsAt old held first failed kept → Leads kept changes after
    → WritesGroup schema first last held text changes old mid → schema ≡ after.schema → last ≡ length after.tables → text ≡ schema_text after.schema → length after.tables ≡ length after.schema.relations → length after.tables ≤ 256 → Shows mid.trees after
written_shows kept changes after schema first last held failed text old mid stood leads group one many is tables few =
    group_shows kept changes after held text old mid
    (subst (λ (h : Option (List ℕ)). WritesGroup after.schema (relations_kept kept) (length after.tables) h text changes old mid) stood.text
    (subst (λ (f : ℕ). WritesGroup after.schema f (length after.tables) held text changes old mid) stood.relations
    (subst (λ (n : ℕ). WritesGroup after.schema first n held text changes old mid) many
    (subst (λ (s : SchemaValue). WritesGroup s first last held text changes old mid) one group))))
    (subst (λ (t : Trees). ShowsKept t kept) (sym stood.settled) stood.shows) stood.read tables few leads is

pub stands_after : (after : DatabaseValue) (last : ℕ) (text : List ℕ) (mid new : View) → Shows mid.trees after → Commits mid new → IsTrue mid.is_open → last ≡ length after.tables → text ≡ schema_text after.schema → IsRead after → StandsAt new (Some text) last false (Some after)
stands_after after last text mid new shows done is_open many is read = record {
  text = ap Some is;
  relations = many;
  fit = refl;
  read = read;
  is_open = subst IsTrue (sym (ap (λ (v : View). v.is_open) done.is)) is_open;
  sound = ap (λ (v : View). v.is_broken) done.is ∙ done.sound;
  settled = ap (λ (v : View). v.trees) done.is ∙ sym (ap (λ (v : View). v.committed) done.is);
  shows = subst (λ (t : Trees). Shows t after) (sym (ap (λ (v : View). v.committed) done.is)) shows;
}

abbrev ok_of : SchemaValue → Result SchemaValue DdlFault
ok_of schema = Ok schema

unpacked : (a b : SchemaValue) → ok_of a ≡ ok_of b → a ≡ b
unpacked a b e = ap (λ (r : Result SchemaValue DdlFault). elim r [ Ok s ↦ s | Err f ↦ a ]) e

texts_of_one : (a b : SchemaValue) → schema_text a ≡ schema_text b → Reads (schema_text a) (Ok a) → Reads (schema_text b) (Ok b) → a ≡ b
texts_of_one a b same first second = unpacked a b (one_outcome (schema_text b) (Ok a) (Ok b) (subst (λ (t : List ℕ). Reads t (Ok a)) same first) second)

some_same : (a b : List ℕ) → Some a ≡ Some b → a ≡ b
some_same a b e = ap (λ (o : Option (List ℕ)). elim o [ Some t ↦ t | None ↦ a ]) e

-- a group that changes nothing leaves it where the database stands too
pub stands_still : (kept : Option DatabaseValue) (after : DatabaseValue) (first : ℕ) (held : Option (List ℕ)) (failed : Bool) (v : View) → StandsAt v held first failed kept → Leads kept [] after → held ≡ Some (schema_text after.schema) → IsRead after → StandsAt v held first failed (Some after)
stands_still None after first held failed v stood leads is read = absurd (let clash = sym stood.text ∙ is in cc)
stands_still (Some db) after first held failed v stood leads is read =
    let same : schema_text db.schema ≡ schema_text after.schema = some_same (schema_text db.schema) (schema_text after.schema) (sym stood.text ∙ is) in
    let one : db.schema ≡ after.schema = texts_of_one db.schema after.schema same stood.read.again read.again in
    let many : length db.tables ≡ length after.tables = stood.read.tables ∙ ap (λ (s : SchemaValue). length s.relations) one ∙ sym read.tables in
    record {
      text = is;
      relations = stood.relations ∙ many;
      fit = stood.fit;
      read = read;
      is_open = stood.is_open;
      sound = stood.sound;
      settled = stood.settled;
      shows = record {
        text = stood.shows.text ∙ ap text_entries same;
        rows = λ r table at. subst (λ (t : Stored). AreEntries (v.committed (r + 1)) t.rows) (get_or_from_slice_get after.tables r table _ at)
            (entries_same (v.committed (r + 1)) (rows_of db r) (rows_of after r) (leads.rows r) (kept_rows (Some db) v.committed stood.shows r (subst (λ (n : ℕ). r < n) (sym many) (slice_get_within after.tables r table at))));
        version = stood.shows.version;
        catalog = stood.shows.catalog ∙ ap catalog_of one;
        others = subst (λ (n : ℕ). AreEmptyPast n v.committed) many stood.shows.others;
      };
    }

pub reads_again : (db : DatabaseValue) (schema : SchemaValue) (text : List ℕ) → schema ≡ db.schema → text ≡ schema_text db.schema → Reads text (Ok schema) → length db.tables ≡ length db.schema.relations → IsRead db
reads_again db schema text same is reads many = record {
  tables = many;
  again = subst (λ (t : List ℕ). Reads t (Ok db.schema)) is (subst (λ (s : SchemaValue). Reads text (Ok s)) same reads);
}

pub opened : (is_open is_broken : Bool) → is_broken ≡ false → (is_open ≡ false → IsTrue is_broken) → IsTrue is_open
opened true broken sound shut = refl
opened false broken sound shut = absurd (true≢false (sym (shut refl) ∙ sound))

pub on_err : {A E X : Type 0} (result : Result A E) → X → OnErr result X
on_err (Ok a) x = tt
on_err (Err e) x = x

-- a call that leaves the view leaves the keeper where it is
pub stands_same : (v w : View) (held : Option (List ℕ)) (many : ℕ) (failed : Bool) (kept : Option DatabaseValue) → w ≡ v → StandsAt v held many failed kept → StandsAt w held many failed kept
stands_same v w held many failed kept same stood = subst (λ (u : View). StandsAt u held many failed kept) (sym same) stood
