-- What is kept of a new database, and behind a group of changes.
use Rattle.std.proofs.Common.{◌≡◌, ◌⊎◌, ℕ, List, [], Option, Some, None, IsTrue, inl, inr, sym, ap, ◌∙◌, subst, Contains}
use Rattle.sqlite_trees.specs.declared.store.Store.{Ghosts}
use Rattle.su_base.specs.declared.values.Value.{Value}
use Rattle.su_rel.specs.Stored.{Stored}
use Rattle.su_index.specs.Tables.{rows_at}
use Rattle.su_schema.specs.SchemaValue.{SchemaValue}
use Rattle.su_schema.specs.Entries.{relation_columns}
use Rattle.su_state.specs.DatabaseValue.{DatabaseValue, empty_tables, rows_of}
use Rattle.su_state.proofs.Empty.{no_rows}
use Rattle.su_keep.specs.declared.keeping.Keeper.{Keeper}
use Rattle.su_changes.specs.declared.changes.Change.{Change}
use Rattle.su_changes.specs.Changes.{LeadTo}
use Rattle.su_changes.specs.Extensions.{IsExtension}
use Rattle.su_keep.specs.Kept.{HasCleanDisk, IsAt, Leads, MayKeep}
use Rattle.su_keep.specs.Opened.{IsFoundIn}
use Rattle.sqlite_wal.specs.Recovery.{Image}
use Rattle.su_ddl.specs.Shown.{schema_text}
use Rattle.sysu_shell.specs.Keeping.{IsKept}
use Rattle.sysu_shell.specs.NewDatabases.{IsAskedFor, IsFirstOf, IsNew, IsNewSchema}

pub new_rows : (schema : SchemaValue) (db : DatabaseValue) → db.tables ≡ empty_tables schema → (r : ℕ) → rows_of db r ≡ []
new_rows schema db is r = ap (λ (t : List Stored). rows_at t r) is ∙ no_rows (relation_columns schema) r

-- from nothing no change leads to a database without rows
pub none_to_new : (db : DatabaseValue) → ((r : ℕ) → rows_of db r ≡ []) → Leads None [] db
none_to_new db empty = record {
  rows = λ r row. (λ has. subst (λ (rows : List (List Value)). Contains rows row) (empty r) has, λ has. subst (λ (rows : List (List Value)). Contains rows row) (sym (empty r)) has);
  schema = tt;
}

module _ {S : Type 0} {g : Ghosts S} (old new : Keeper S g) where
  -- what keeps on is at the database behind the changes
  pub kept_on : (before db : DatabaseValue) (changes : List Change) → IsKept old before → LeadTo before changes db → IsExtension before.schema db.schema
      → (HasCleanDisk new → HasCleanDisk old) → (MayKeep old (Some before) changes db → HasCleanDisk new → IsAt new (Some db)) → IsKept new db
  kept_on before db changes kept leads extends clean done = λ c. done (kept (clean c), record { rows = leads; schema = extends }) c

  -- what didn't is shut, or is as before
  pub shut_or_same : (IsTrue new.has_failed ⊎ (new ≡ old)) → IsTrue new.has_failed ⊎ ((db : DatabaseValue) → IsKept old db → IsKept new db)
  shut_or_same (inl shut) = inl shut
  shut_or_same (inr same) = inr (λ db kept. subst (λ (k : Keeper S g). IsKept k db) (sym same) kept)

-- a new schema is the one that is asked for
new_asked : (schema : Option SchemaValue) (own : SchemaValue) → IsNewSchema schema own → IsAskedFor schema own
new_asked None own is = tt
new_asked (Some asked) own is = ap (λ (s : SchemaValue). schema_text s) is

pub asked_of_new : (schema : Option SchemaValue) (db : DatabaseValue) → IsNew schema db → IsAskedFor schema db.schema
asked_of_new schema db new = new_asked schema db.schema new.begins

-- the database that was found, or a new one where none was
module _ (image : Image) (schema : Option SchemaValue) (found : Option DatabaseValue) (held : IsFoundIn image found) where
  pub first_held : (one db : DatabaseValue) → found ≡ Some one → db ≡ one → IsAskedFor schema one.schema → IsFirstOf image schema db
  first_held one db is same asked =
      subst (λ (d : DatabaseValue). IsFirstOf image schema d) (sym same) (inl (subst (λ (f : Option DatabaseValue). IsFoundIn image f) is held, asked))

  pub first_new : (db : DatabaseValue) → found ≡ None → IsNew schema db → IsFirstOf image schema db
  first_new db is new = inr (subst (λ (f : Option DatabaseValue). IsFoundIn image f) is held, new)
