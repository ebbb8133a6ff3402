-- What a database is: a valid schema, and one set of rows per relation.
-- well kept: widths and kinds, rows that all differ, every enforced dependency, and a limit
use Rattle.std.specs.Prelude.{◌≡◌, ℕ, ◌<◌, ◌≤◌, List, [], All, length, map}
use Rattle.su_base.specs.declared.values.Value.{Value}
use Rattle.su_base.specs.declared.values.Column.{Column}
use Rattle.su_base.specs.Value.{kind_of}
use Rattle.su_index.specs.Tables.{table_at, rows_at}
use Rattle.su_base.specs.Lists.{AllDiffer}
use Rattle.su_rel.specs.Stored.{Stored}
use Rattle.su_schema.specs.SchemaValue.{SchemaValue}
use Rattle.su_schema.specs.Valid.{IsValid}
use Rattle.su_schema.specs.Entries.{relation_columns}
use Rattle.su_schema.specs.Known.{columns_at}
use Rattle.su_state.specs.Enforced.{HoldsOn}

-- a schema, and the rows of each relation in the order of the relations
pub record DatabaseValue : Type 0 where
  pub schema : SchemaValue
  pub tables : List Stored

-- a table without rows for each relation
abbrev pub empty_tables : SchemaValue → List Stored
empty_tables schema = map (λ columns. record { width = length columns; rows = [] }) (relation_columns schema)

-- the table of a relation
abbrev pub table_of : DatabaseValue → ℕ → Stored
table_of db relation = table_at db.tables relation

-- the rows of a relation
abbrev pub rows_of : DatabaseValue → ℕ → List (List Value)
rows_of db relation = rows_at db.tables relation

-- the columns of a relation
abbrev pub columns_of : DatabaseValue → ℕ → List Column
columns_of db relation = columns_at db.schema relation

-- the kinds of the values of a row are those of the columns, and there are as many
abbrev pub HasColumnKinds : List Column → List Value → Type 0
HasColumnKinds columns row = map kind_of row ≡ map (λ c. c.kind) columns

-- widths and kinds, rows that all differ, every enforced dependency, and at most 1,000,000 rows a relation
pub record IsWellKept (db : DatabaseValue) : Type 0 where
  pub valid : IsValid db.schema
  pub tables : length db.tables ≡ length db.schema.relations
  pub widths : (relation : ℕ) → relation < length db.tables → (table_of db relation).width ≡ length (columns_of db relation)
  pub typed : (relation : ℕ) → relation < length db.tables → All (HasColumnKinds (columns_of db relation)) (rows_of db relation)
  pub differ : (relation : ℕ) → AllDiffer (rows_of db relation)
  pub enforced : All (λ fd. All (λ object. HoldsOn fd object (rows_of db object.relation)) db.schema.objects) db.schema.fds
  pub few : (relation : ℕ) → length (rows_of db relation) ≤ 1000000
