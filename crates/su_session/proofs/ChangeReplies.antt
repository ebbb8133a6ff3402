-- The reply to a change, by how it ends.
use Rattle.std.proofs.Common.{◌≡◌, ℕ, Bool, true, false, List, [], ◌∷◌, slice_get, Some, Ok, Err, inl, inr, sym, ap, ◌∙◌, subst, length}
use Rattle.su_base.specs.declared.values.Value.{Value}
use Rattle.su_base.specs.declared.values.Column.{Column}
use Rattle.su_where.specs.Truth.{Cond}
use Rattle.su_schema.specs.Entries.{place_of, relation_names, relation_columns}
use Rattle.su_csv.specs.File.{reading}
use Rattle.su_csv.specs.declared.faults.CsvFault.{CsvFault}
use Rattle.su_query.specs.Refs.{NamedCond}
use Rattle.su_query.specs.Lookup.{IsColumnCondition}
use Rattle.su_query.specs.NumberedConditions.{with_columns}
use Rattle.su_state.specs.declared.faults.StateFault.{StateFault}
use Rattle.su_state.specs.declared.faults.LoadFault.{LoadFault}
use Rattle.su_state.specs.declared.faults.LoadEnd.TheVariants as load
use Rattle.su_state.specs.DatabaseValue.{DatabaseValue, columns_of}
use Rattle.su_state.specs.RowChanges.{Inserts, Deletes}
use Rattle.su_state.specs.Changes.{DeletesWhere}
use Rattle.su_state.specs.Loads.{Loads, InsertsAll}
use Rattle.su_show.specs.declared.statement_refusal.Refusal.TheVariants.{State, Record, Csv}
use Rattle.su_show.specs.Changes.{deleted_text, loaded_text}
use Rattle.su_session.specs.declared.replies.Reply.{Reply}
use Rattle.su_session.specs.Outcomes.{Accepts, Refuses}
use Rattle.su_session.specs.RowStatements.{InRelation, InsertsRow, DeletesRow, DeletesRows, LoadsRows}
use Rattle.su_schema.proofs.PairsSoFar.{columns_there}

module _ (db : DatabaseValue) (name : List ℕ) (reply : Reply) where
  pub refused_insert : (new : DatabaseValue) (r : ℕ) (row : List Value) (fault : StateFault) → Inserts db r row (Err fault) new → Refuses new (State fault) reply new → InsertsRow db row reply new r
  refused_insert new r row fault h refuses = (Err fault, h, subst (λ (old : DatabaseValue). Refuses old (State fault) reply new) h.1 refuses)

  pub refused_delete : (new : DatabaseValue) (r : ℕ) (row : List Value) (fault : StateFault) → Deletes db r row (Err fault) new → Refuses new (State fault) reply new → DeletesRow db row reply new r
  refused_delete new r row fault h refuses = (Err fault, h, subst (λ (old : DatabaseValue). Refuses old (State fault) reply new) h.1 refuses)

  pub deleted_rows : (new : DatabaseValue) (r : ℕ) (cond : NamedCond) (c : Cond) (count : ℕ) → place_of (relation_names db.schema) name ≡ Some r → c ≡ with_columns db.schema r cond → IsColumnCondition db.schema r cond
      → DeletesWhere db r c count new → Accepts (deleted_text count) reply → InRelation db name reply new (DeletesRows db cond reply new)
  deleted_rows new r cond c count placed is on done accepts = inr (r, placed, inr (on, (count, subst (λ (x : Cond). DeletesWhere db r x count new) is done, accepts)))

  -- a load from a file that the columns of the relation read
  module _ (r : ℕ) (placed : place_of (relation_names db.schema) name ≡ Some r) (bytes : List ℕ) (columns : List Column) (at : slice_get (relation_columns db.schema) r ≡ Some columns) where
    own : columns ≡ columns_of db r
    own = sym (columns_there db.schema r columns at)

    pub refused_file : (fault : CsvFault) → reading columns bytes ≡ Err fault → Refuses db (Csv r fault) reply db → InRelation db name reply db (LoadsRows db bytes reply db)
    refused_file fault fails refuses = inr (r, placed, inl (fault, subst (λ (cs : List Column). reading cs bytes ≡ Err fault) own fails, refuses))

    module _ (new : DatabaseValue) (rows : List (List Value)) (read : reading columns bytes ≡ Ok rows) where
      pub refused_load : (fault : LoadFault) → Loads db r rows (Err (load.Refused fault)) new → Refuses new (Record fault) reply new → InRelation db name reply new (LoadsRows db bytes reply new)
      refused_load fault h refuses =
          inr (r, placed, inr (rows, subst (λ (cs : List Column). reading cs bytes ≡ Ok rows) own read, (Err (load.Refused fault), h, subst (λ (old : DatabaseValue). Refuses old (Record fault) reply new) h.1 refuses)))

      pub loaded_rows : (count records : ℕ) → records ≡ length rows → Loads db r rows (Ok count) new → Accepts (loaded_text count records) reply → InRelation db name reply new (LoadsRows db bytes reply new)
      loaded_rows count records many h accepts =
          inr (r, placed, inr (rows, subst (λ (cs : List Column). reading cs bytes ≡ Ok rows) own read, (Ok count, h, subst (λ (n : ℕ). Accepts (loaded_text count n) reply) many accepts)))

-- inserts leave the schema as it was
insert_schema : (db new : DatabaseValue) (r : ℕ) (row : List Value) (is_new : Bool) → Inserts db r row (Ok is_new) new → new.schema ≡ db.schema
insert_schema db new r row true h = h.1.only.schema
insert_schema db new r row false h = ap (λ d. d.schema) h.1

pub same_schema : (db new : DatabaseValue) (r : ℕ) (rows : List (List Value)) (count : ℕ) → InsertsAll db r rows count new → new.schema ≡ db.schema
same_schema db new r [] count h = ap (λ d. d.schema) h.1
same_schema db new r (row ∷ rows) count (between, is_new, more, first, rest, sum) = same_schema between new r rows more rest ∙ insert_schema db between r row is_new first
