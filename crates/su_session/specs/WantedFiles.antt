-- The file that a text wants.
-- load: a statement that reads a file into a known relation
use Rattle.std.specs.Prelude.{◌≡◌, ℕ, List, Some}
use Rattle.su_query.specs.declared.statements.Statement.TheVariants.{Load}
use Rattle.su_query.specs.StatementTexts.{IsStatement}
use Rattle.su_state.specs.DatabaseValue.{DatabaseValue}
use Rattle.su_session.specs.declared.wants.Want.{Want}
use Rattle.su_session.specs.declared.wants.Want.TheVariants.{Nothing, File}
use Rattle.su_session.specs.RowStatements.{relation_number}

-- the text is a load of a known relation, from this file
abbrev pub IsLoad : DatabaseValue → List ℕ → List ℕ → Type 0
IsLoad db text path = (name : List ℕ) × (r : ℕ) × IsStatement text (Load name path) × (relation_number db name ≡ Some r)

-- the file that a statement wants
abbrev pub Wants : DatabaseValue → List ℕ → Want → Type 0
Wants db text (File path) = IsLoad db text path
Wants db text Nothing = (path : List ℕ) → ¬ IsLoad db text path
