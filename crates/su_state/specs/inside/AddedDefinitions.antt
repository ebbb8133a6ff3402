-- What the steps of a definition ask and answer.
-- added: the last dependency or the last object of a schema, as the definition says
-- among: which breaches are looked for
-- No public contract cites this module.
use Rattle.std.specs.Prelude.{◌≡◌, ℕ, ◌<◌, ◌≤◌, List, length, slice_get, Some}
use Rattle.su_rel.specs.Stored.{Stored}
use Rattle.su_schema.specs.declared.definitions.Definition.{Definition}
use Rattle.su_schema.specs.declared.definitions.Definition.TheVariants.{Relation, Object, Fd}
use Rattle.su_schema.specs.SchemaValue.{SchemaValue, ObjectEntry}
use Rattle.su_schema.specs.Known.{columns_at}
use Rattle.su_state.specs.declared.faults.DefineFault.{DefineFault}
use Rattle.su_state.specs.declared.faults.DefineFault.TheVariants.{Schema, Breaks, NoMemory}
use Rattle.su_index.specs.Tables.{table_at}
use Rattle.su_state.specs.Breaches.{Breach, IsFirstOf}
use Rattle.su_state.specs.NewBreaches.{told}

-- each object stands on one of the tables, of its relation's width
abbrev pub HaveTables : SchemaValue → List Stored → Type 0
HaveTables schema tables =
    (o : ℕ) (object : ObjectEntry) → slice_get schema.objects o ≡ Some object → (object.relation < length tables) × ((table_at tables object.relation).width ≡ length (columns_at schema object.relation))

-- there is what was added
abbrev pub HasAdded : SchemaValue → Definition → Type 0
HasAdded schema (Fd left right) = 0 < length schema.fds
HasAdded schema (Object name relation pairs) = 0 < length schema.objects
HasAdded schema _ = Unit {0}

-- a relation has at most 32 columns
abbrev pub IsNarrow : Definition → Type 0
IsNarrow (Relation name columns) = length columns ≤ 32
IsNarrow _ = Unit {0}

-- the fault tells the first of these breaches, or that memory is wanting
abbrev pub TellsFirst : SchemaValue → (Breach → Type 0) → DefineFault → Type 0
TellsFirst schema Among (Breaks fd name first second) = (b : Breach) × IsFirstOf Among b × (Breaks fd name first second ≡ told schema b)
TellsFirst schema Among NoMemory = Unit {0}
TellsFirst schema Among (Schema fault) = ⊥
