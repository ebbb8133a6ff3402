-- What the statements that change rows do to the database, and their replies.
-- known: a relation has the name
use Rattle.std.specs.Prelude.{◌≡◌, ◌⊎◌, ℕ, Bool, List, length, Option, Some, None, Result, Ok, Err}
use Rattle.su_base.specs.declared.values.Value.{Value}
use Rattle.su_schema.specs.Entries.{relation_names, place_of}
use Rattle.su_csv.specs.declared.faults.CsvFault.{CsvFault}
use Rattle.su_csv.specs.File.{reading}
use Rattle.su_query.specs.Refs.{NamedCond}
use Rattle.su_query.specs.declared.faults.QueryFault.{QueryFault}
use Rattle.su_query.specs.Lookup.{IsColumnCondition, IsColumnRefusal}
use Rattle.su_query.specs.NumberedConditions.{with_columns}
use Rattle.su_state.specs.declared.faults.StateFault.{StateFault}
use Rattle.su_state.specs.declared.faults.StateFault.TheVariants.{UnknownRelation}
use Rattle.su_state.specs.declared.faults.LoadEnd.{LoadEnd}
use Rattle.su_state.specs.DatabaseValue.{DatabaseValue, columns_of}
use Rattle.su_state.specs.Changes.{DeletesWhere}
use Rattle.su_state.specs.RowChanges.{Inserts, Deletes}
use Rattle.su_state.specs.Loads.{Loads}
use Rattle.su_show.specs.declared.statement_refusal.Refusal.TheVariants.{Query, State, Csv}
use Rattle.su_show.specs.Changes.{deleted_text}
use Rattle.su_session.specs.declared.replies.Reply.{Reply}
use Rattle.su_session.specs.Outcomes.{Accepts, Refuses, TellsInsert, TellsDelete, TellsLoad}

-- the number of the relation with this name
abbrev pub relation_number : DatabaseValue → List ℕ → Option ℕ
relation_number db name = place_of (relation_names db.schema) name

-- refused where no relation has the name, else this of its number
abbrev pub InRelation : DatabaseValue → List ℕ → Reply → DatabaseValue → (ℕ → Type 0) → Type 0
InRelation db name reply new Known =
    ((relation_number db name ≡ None) × Refuses db (State (UnknownRelation name)) reply new)
    ⊎ ((r : ℕ) × (relation_number db name ≡ Some r) × Known r)

-- the row is inserted into relation r, and the answer is told
abbrev pub InsertsRow : DatabaseValue → List Value → Reply → DatabaseValue → ℕ → Type 0
InsertsRow db row reply new r = (answer : Result Bool StateFault) × Inserts db r row answer new × TellsInsert db answer reply new

-- the row is deleted from relation r, and the answer is told
abbrev pub DeletesRow : DatabaseValue → List Value → Reply → DatabaseValue → ℕ → Type 0
DeletesRow db row reply new r = (answer : Result Bool StateFault) × Deletes db r row answer new × TellsDelete db answer reply new

-- refused for a column or for kinds, else the rows for which the condition is true are out
abbrev pub DeletesRows : DatabaseValue → NamedCond → Reply → DatabaseValue → ℕ → Type 0
DeletesRows db cond reply new r =
    ((fault : QueryFault) × IsColumnRefusal db.schema r cond fault × Refuses db (Query fault) reply new)
    ⊎ (IsColumnCondition db.schema r cond × ((count : ℕ) × DeletesWhere db r (with_columns db.schema r cond) count new × Accepts (deleted_text count) reply))

-- refused for the file, else the rows of the file are inserted one after another
abbrev pub LoadsRows : DatabaseValue → List ℕ → Reply → DatabaseValue → ℕ → Type 0
LoadsRows db bytes reply new r =
    ((fault : CsvFault) × (reading (columns_of db r) bytes ≡ Err fault) × Refuses db (Csv r fault) reply new)
    ⊎ ((rows : List (List Value)) × (reading (columns_of db r) bytes ≡ Ok rows)
    × ((answer : Result ℕ LoadEnd) × Loads db r rows answer new × TellsLoad db (length rows) answer reply new))
