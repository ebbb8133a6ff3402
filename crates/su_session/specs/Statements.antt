-- What each statement does to the database, and its reply.
-- reply: what is written for the statement, and whether it is a refusal
use Rattle.std.specs.Prelude.{◌≡◌, ◌⊎◌, ℕ, List, None}
use Rattle.std.specs.Ordering.{nat_cmp}
use Rattle.std.specs.FinSet.{FinSet}
use Rattle.su_base.specs.declared.values.Value.{Value}
use Rattle.su_schema.specs.Entries.{attribute_names, column_names}
use Rattle.su_query.specs.declared.faults.QueryFault.{QueryFault}
use Rattle.su_query.specs.declared.statements.Statement.{Statement}
use Rattle.su_query.specs.declared.statements.Statement.TheVariants.{Insert, Delete, DeleteWhere, Load, Print, Schema, Closure, Retrieve, Explain, Certify, Support, Compare, Window}
use Rattle.su_query.specs.Scopes.{first_unknown_name}
use Rattle.su_query.specs.Sets.{attributes_named, IsNameRefusal}
use Rattle.su_maxobj.specs.MaximalObjects.{AreMaximalObjects}
use Rattle.su_state.specs.DatabaseValue.{DatabaseValue, rows_of, columns_of}
use Rattle.su_state.specs.Changes.{AreInOrder}
use Rattle.su_show.specs.declared.statement_refusal.Refusal.TheVariants.{Query}
use Rattle.su_show.specs.Replies.{rows_text, schema_reply, IsClosureReply}
use Rattle.su_session.specs.declared.replies.Reply.{Reply}
use Rattle.su_session.specs.Outcomes.{Accepts, Refuses}
use Rattle.su_session.specs.Retrievals.{Retrieves}
use Rattle.su_session.specs.Explanations.{Explains}
use Rattle.su_session.specs.Certificates.{Certifies}
use Rattle.su_session.specs.Supports.{Supports}
use Rattle.su_session.specs.Comparisons.{Compares}
use Rattle.su_session.specs.Windows.{ShowsWindow}
use Rattle.su_session.specs.RowStatements.{InRelation, InsertsRow, DeletesRow, DeletesRows, LoadsRows}

-- the rows of a relation in their order, as CSV
abbrev pub PrintsRows : DatabaseValue → Reply → DatabaseValue → ℕ → Type 0
PrintsRows db reply new r = ((rows : List (List Value)) × AreInOrder (rows_of db r) rows × Accepts (rows_text (column_names (columns_of db r)) rows) reply) × (new ≡ db)

-- the schema and its maximal objects; nothing changes
abbrev pub ShowsSchema : DatabaseValue → Reply → DatabaseValue → Type 0
ShowsSchema db reply new = ((sets : List (FinSet nat_cmp)) × AreMaximalObjects db.schema sets × Accepts (schema_reply db.schema sets) reply) × (new ≡ db)

-- refused at the first unknown name, else the closure of the set of the names
abbrev pub ShowsClosure : DatabaseValue → List (List ℕ) → Reply → DatabaseValue → Type 0
ShowsClosure db names reply new =
    ((fault : QueryFault) × IsNameRefusal db.schema names fault × Refuses db (Query fault) reply new)
    ⊎ ((first_unknown_name (attribute_names db.schema) names ≡ None)
    × ((text : List ℕ) × IsClosureReply db.schema (attributes_named db.schema names) text × Accepts text reply) × (new ≡ db))

-- the statement takes the database to the new one, with this reply; a load reads these bytes
abbrev pub Answers : DatabaseValue → List ℕ → Statement → Reply → DatabaseValue → Type 0
Answers db file (Insert name row) reply new = InRelation db name reply new (InsertsRow db row reply new)
Answers db file (Delete name row) reply new = InRelation db name reply new (DeletesRow db row reply new)
Answers db file (DeleteWhere name cond) reply new = InRelation db name reply new (DeletesRows db cond reply new)
Answers db file (Load name path) reply new = InRelation db name reply new (LoadsRows db file reply new)
Answers db file (Print name) reply new = InRelation db name reply new (PrintsRows db reply new)
Answers db file Schema reply new = ShowsSchema db reply new
Answers db file (Closure names) reply new = ShowsClosure db names reply new
Answers db file (Retrieve q) reply new = Retrieves db q reply new
Answers db file (Explain q) reply new = Explains db q reply new
Answers db file (Certify q) reply new = Certifies db q reply new
Answers db file (Support q) reply new = Supports db q reply new
Answers db file (Compare first second) reply new = Compares db first second reply new
Answers db file (Window names) reply new = ShowsWindow db names reply new
