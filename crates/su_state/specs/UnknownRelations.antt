-- Names of relations that a schema doesn't have.
-- name: a list of bytes; fault: why rows are not changed; place: a name's number among names, from 0
use Rattle.std.specs.Prelude.{◌≡◌, ℕ, List, None}
use Rattle.su_schema.specs.SchemaValue.{SchemaValue}
use Rattle.su_schema.specs.Entries.{relation_names, place_of}
use Rattle.su_state.specs.declared.faults.StateFault.{StateFault}
use Rattle.su_state.specs.declared.faults.StateFault.TheVariants.{UnknownRelation}

-- the fault tells the name, which no relation of the schema has
abbrev pub IsUnknownRelation : SchemaValue → List ℕ → StateFault → Type 0
IsUnknownRelation schema name fault = (fault ≡ UnknownRelation name) × (place_of (relation_names schema) name ≡ None)
