-- A definition on a database: it is added to the schema and the stored rows stay, or it is refused and nothing changes.
-- refused: by the first check of the schema that fails or, where none does, by the first breach of what it adds
-- tables: the stored rows of each relation; a relation that is new has none yet
use Rattle.std.specs.Prelude.{◌≡◌, List, [], ◌∷◌, ◌++◌, length, Result, Ok, Err}
use Rattle.su_rel.specs.Stored.{Stored}
use Rattle.su_schema.specs.declared.definitions.Definition.{Definition}
use Rattle.su_schema.specs.declared.definitions.Definition.TheVariants.{Relation}
use Rattle.su_schema.specs.SchemaValue.{SchemaValue}
use Rattle.su_schema.specs.Definitions.{applied}
use Rattle.su_state.specs.declared.faults.DefineFault.{DefineFault}
use Rattle.su_state.specs.declared.faults.DefineFault.TheVariants.{Schema, Breaks, NoMemory}
use Rattle.su_state.specs.DatabaseValue.{DatabaseValue}
use Rattle.su_state.specs.Breaches.{Breach, IsFirstOf}
use Rattle.su_state.specs.NewBreaches.{IsNewBreach, told}

-- the tables after a definition: a new relation has no rows yet
abbrev pub tables_with : Definition → List Stored → List Stored
tables_with (Relation name columns) tables = tables ++ record { width = length columns; rows = [] } ∷ []
tables_with _ tables = tables

-- a definition, its answer and the database after it: with the definition, or as before
abbrev pub Defines : DatabaseValue → Definition → Result (Unit {0}) DefineFault → DatabaseValue → Type 0
Defines db definition (Ok _) new =
    (applied db.schema definition ≡ Ok new.schema) × (new.tables ≡ tables_with definition db.tables) × ((b : Breach) → ¬ IsNewBreach new.schema db.tables definition b)
Defines db definition (Err (Schema fault)) new = (applied db.schema definition ≡ Err fault) × (new ≡ db)
Defines db definition (Err (Breaks fd name first second)) new =
    ((schema : SchemaValue) × (b : Breach) × (applied db.schema definition ≡ Ok schema) × IsFirstOf (IsNewBreach schema db.tables definition) b × (Breaks fd name first second ≡ told schema b)) × (new ≡ db)
Defines db definition (Err NoMemory) new = ⊥
