-- What is kept of a database.
-- Keeps: whether a database is the one that is kept; rows are a set: their places may differ
use Rattle.std.specs.Prelude.{◌≡◌, List, []}
use Rattle.su_state.specs.DatabaseValue.{DatabaseValue}
use Rattle.su_changes.specs.declared.changes.Change.{Change}
use Rattle.su_changes.specs.Changes.{LeadTo}
use Rattle.su_changes.specs.Extensions.{IsExtension}

-- the same schema, and the same rows in each relation
pub record IsSame (one other : DatabaseValue) : Type 0 where
  pub schema : one.schema ≡ other.schema
  pub rows : LeadTo one [] other

-- the changes lead from what is kept to the database, whose schema goes on behind the one of before
abbrev pub LeadFromKept : (DatabaseValue → Type 0) → List Change → DatabaseValue → Type 0
LeadFromKept Keeps changes db = (before : DatabaseValue) × Keeps before × LeadTo before changes db × IsExtension before.schema db.schema

-- what was kept is kept
abbrev pub KeepsAsBefore : (DatabaseValue → Type 0) → (DatabaseValue → Type 0) → Type 0
KeepsAsBefore Old New = (db : DatabaseValue) → Old db → New db
