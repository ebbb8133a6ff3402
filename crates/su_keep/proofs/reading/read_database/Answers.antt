-- The text, the version and the rows are read one after another, and only cursors have moved.
use Rattle.std.proofs.Common.{◌≡◌, ℕ, ◌+◌, List, [], ◌∷◌, length, Some, Ok, sym, ap, subst, ◌∙◌}
use Rattle.sqlite_trees.specs.Tree.{Trees}
use Rattle.sqlite_trees.specs.Objects.{version_tree, version_rows}
use Rattle.sqlite_trees.specs.View.{View, IsClean}
use Rattle.su_ddl.specs.Files.{Reads}
use Rattle.su_state.specs.DatabaseValue.{rows_of}
use Rattle.su_entries.specs.TreeRows.{AreEntries}
use Rattle.su_keep.specs.inside.Writes.{held_entries}
use Rattle.su_keep.specs.Listed.{text_row, catalog_of}
use Rattle.su_keep.specs.Shown.{listed_in}
use Rattle.su_keep.proofs.Found.{finds, finds_none, none_past, one_object}
use Rattle.su_entries.proofs.QuietCalls.{quiet_then, clean_before}
use Rattle.su_keep.proofs.reading.read_database.Goals as goal

pub returns-in_err-database-clause-quiet : goal.returns-in_err-database-clause-quiet
returns-in_err-database-clause-quiet g c = quiet_then c.read_text.ensures.quiet c.filled.ensures.quiet

pub returns-clause-quiet : goal.returns-clause-quiet
returns-clause-quiet g c = quiet_then c.read_text.ensures.quiet c.filled.ensures.quiet

pub returns-clause-found : goal.returns-clause-found
returns-clause-found g c = λ now.
    let view = g.S.Store.view in
    let old = view c.args.store.now in
    let mid = view c.read_text.new.store in
    let db = c.in_ok-database.database in
    let text = c.in-Some.text in
    let later : IsClean mid = clean_before c.filled.ensures.quiet now in
    let first : IsClean old = clean_before c.read_text.ensures.quiet later in
    let moved : mid.trees ≡ old.trees = ap (λ (v : View). v.trees) (c.in_ok-text.ensures.same later) in
    let held : old.trees 0 ≡ held_entries (Some text) = c.in_ok-text.ensures.text later ∙ ap held_entries c.in-Some.is in
    let version : old.trees version_tree ≡ version_rows 1 = c.version-version.ensures first (c.requires.is_open first) ∙ ap version_rows c.if-version-ne-VERSION.false in
    let listed : listed_in old.trees ≡ catalog_of c.in_ok-schema.schema = sym (c.as_slice-3.ensures.value ∙ c.in_ok-objects.ensures first) ∙ c.in_ok-check_tables.ensures in
    let others = none_past c.in_ok-schema.schema (length c.in_ok-schema.schema.relations) old (g.met.S.Alter.listed c.args.store.now (c.requires.sound first)) (g.met.S.Store.ordered c.args.store.now (c.requires.sound first)) listed in
    finds old.trees db c.in_ok-schema.schema text listed others held version (c.in_ok-schema.ensures.text ∙ c.as_slice-2.ensures)
    (subst (λ (t : List ℕ). Reads t (Ok c.in_ok-schema.schema)) c.as_slice-2.ensures c.in_ok-schema.ensures.reads)
    c.in_ok-database.ensures.schema c.in_ok-database.ensures.tables
    (λ r below. subst (λ (t : Trees). AreEntries (t (r + 1)) (rows_of db r)) moved (c.in_ok-database.ensures.rows now r below))

pub returns-then-len-eq1-clause-found : goal.returns-then-len-eq1-clause-found
returns-then-len-eq1-clause-found g c = λ now.
    let store = c.args.store.now in
    let old = g.S.Store.view store in
    let first : IsClean old = clean_before c.read_text.ensures.quiet now in
    let empty : old.trees 0 ≡ [] = c.in_ok-text.ensures.text now ∙ ap held_entries c.in_default.is in
    let version : old.trees version_tree ≡ version_rows 0 = c.version-version.ensures first (c.requires.is_open first) ∙ ap version_rows c.if-version-eq0.true in
    let one : length c.as_slice.result.now ≡ 1 = c.as_slice.ensures.len ∙ sym c.len.ensures ∙ c.if-len-eq1.true in
    let listed : listed_in old.trees ≡ text_row ∷ [] = sym (c.as_slice.ensures.value ∙ c.in_ok-objects.ensures first) ∙ one_object c.as_slice.result.now (c.in_ok-is_ours.ensures c.if-not-branch.false) one in
    finds_none old empty version listed (g.met.S.Alter.listed store (c.requires.sound first)) (g.met.S.Store.ordered store (c.requires.sound first))
