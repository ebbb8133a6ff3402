-- A text is read in one way, or refused for one cause.
-- refused: for the first cause
use Rattle.std.specs.Prelude.{◌≡◌, ℕ, List, Result}
use Rattle.su_schema.specs.SchemaValue.{SchemaValue}
use Rattle.su_ddl.specs.declared.faults.DdlFault.{DdlFault}
use Rattle.su_ddl.specs.Files.{Reads}
use Rattle.su_query.specs.Refs.{NamedCond}
use Rattle.su_query.specs.declared.faults.QueryFault.{QueryFault}
use Rattle.su_query.specs.declared.statements.Query.{Query}
use Rattle.su_query.specs.declared.statements.Statement.{Statement}
use Rattle.su_query.specs.Lookup.{IsQueryRefusal, IsKnownQuery, IsColumnRefusal, IsColumnCondition}
use Rattle.su_query.specs.StatementTexts.{IsStatement, IsTextRefusal}
use Rattle.su_query.specs.Limits.{HasFew}

-- a file of definitions is read as one schema, or is at fault in one way
abbrev pub OneOutcome : Type 0
OneOutcome = (file : List ℕ) (outcome other : Result SchemaValue DdlFault) → Reads file outcome → Reads file other → outcome ≡ other

-- a text is at most one statement
abbrev pub OneStatement : Type 0
OneStatement = (text : List ℕ) (st other : Statement) → IsStatement text st → IsStatement text other → st ≡ other

-- a text has one refusal
abbrev pub OneRefusal : Type 0
OneRefusal = (text : List ℕ) (why other : QueryFault) → IsTextRefusal text why → IsTextRefusal text other → why ≡ other

-- and none, where it is a statement within the limits
abbrev pub RefusedOrRead : Type 0
RefusedOrRead = (text : List ℕ) (why : QueryFault) (st : Statement) → IsTextRefusal text why → IsStatement text st → ¬ HasFew st

-- the names of a query are refused for one cause, or all are known
abbrev pub OneQueryRefusal : Type 0
OneQueryRefusal = (schema : SchemaValue) (q : Query) (why other : QueryFault) → IsQueryRefusal schema q why → IsQueryRefusal schema q other → why ≡ other

-- a query whose names are refused isn't one whose names are known
abbrev pub QueryIsRefusedOrKnown : Type 0
QueryIsRefusedOrKnown = (schema : SchemaValue) (q : Query) (why : QueryFault) → IsQueryRefusal schema q why → ¬ IsKnownQuery schema q

-- so are those of a deletion's condition
abbrev pub OneColumnRefusal : Type 0
OneColumnRefusal = (schema : SchemaValue) (r : ℕ) (c : NamedCond) (why other : QueryFault) → IsColumnRefusal schema r c why → IsColumnRefusal schema r c other → why ≡ other

-- a condition whose names are refused isn't one whose names are known
abbrev pub ConditionIsRefusedOrKnown : Type 0
ConditionIsRefusedOrKnown = (schema : SchemaValue) (r : ℕ) (c : NamedCond) (why : QueryFault) → IsColumnRefusal schema r c why → ¬ IsColumnCondition schema r c
