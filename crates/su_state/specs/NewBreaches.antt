-- Stored rows that break what a definition adds.
-- added: the last dependency or the last object of the schema with the definition
use Rattle.std.specs.Prelude.{◌≡◌, ◌-◌, ℕ, List, [], length, slice_index_or, Contains}
use Rattle.su_rel.specs.Stored.{Stored}
use Rattle.su_schema.specs.declared.definitions.Definition.{Definition}
use Rattle.su_schema.specs.declared.definitions.Definition.TheVariants.{Object, Fd}
use Rattle.su_schema.specs.SchemaValue.{SchemaValue}
use Rattle.su_schema.specs.Entries.{object_names}
use Rattle.su_index.specs.Tables.{rows_at}
use Rattle.su_state.specs.declared.faults.DefineFault.{DefineFault}
use Rattle.su_state.specs.declared.faults.DefineFault.TheVariants.{Breaks}
use Rattle.su_state.specs.Breaches.{Breach, fd_at, IsBreach}

-- it is a breach of the dependency, or through the object, that the definition adds: the last of the schema
abbrev pub IsOfAdded : SchemaValue → Definition → Breach → Type 0
IsOfAdded schema (Fd left right) b = b.dependency ≡ length schema.fds - 1
IsOfAdded schema (Object own relation pairs) b = b.object ≡ length schema.objects - 1
IsOfAdded schema _ b = ⊥

-- two stored rows of a relation break something
pub record IsStoredBreach (schema : SchemaValue) (tables : List Stored) (b : Breach) : Type 0 where
  pub relation : ℕ
  pub breach : IsBreach schema relation b
  pub stored : Contains (rows_at tables relation) b.first × Contains (rows_at tables relation) b.second

-- two stored rows of a relation break what the definition adds
abbrev pub IsNewBreach : SchemaValue → List Stored → Definition → Breach → Type 0
IsNewBreach schema tables definition b = IsStoredBreach schema tables b × IsOfAdded schema definition b

-- how a breach is told: the dependency itself, the object by its name, and the rows
abbrev pub told : SchemaValue → Breach → DefineFault
told schema b = Breaks (fd_at schema b.dependency) (slice_index_or (object_names schema) b.object []) b.first b.second
