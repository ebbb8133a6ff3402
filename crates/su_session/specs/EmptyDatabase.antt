-- The database that a session begins with: every relation is there, without rows.
-- empty: without a row in any relation
use Rattle.su_schema.specs.SchemaValue.{SchemaValue}
use Rattle.su_state.specs.DatabaseValue.{DatabaseValue, empty_tables}

-- the schema without a row
abbrev pub empty_database : SchemaValue → DatabaseValue
empty_database schema = record { schema = schema; tables = empty_tables schema }
