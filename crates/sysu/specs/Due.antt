-- Which file of a run falls due, and within which limit.
-- texts: those that were written before
use Rattle.std.specs.Prelude.{◌≡◌, ◌⊎◌, ◌++◌, ◌∷◌, ℕ, List, [], Option, Ok}
use Rattle.su_io.specs.declared.files.File.{File}
use Rattle.su_schema.specs.SchemaValue.{SchemaValue}
use Rattle.su_files.specs.RunFiles.{schema_limit, script_limit, SchemaIs}
use Rattle.su_replies.specs.Handed.{load_limit}
use Rattle.sysu.specs.Scripts.{AreBefore}
use Rattle.sysu.specs.Words.{Named}

-- the schema's file, the script's behind an accepted schema, or that of a load behind the replies to the statements before it
abbrev pub FallsDue : Named → Option (List File) → List (List ℕ) → List ℕ → ℕ → Type 0
FallsDue names files texts path limit =
    ((texts ≡ []) × (path ≡ names.schema) × (limit ≡ schema_limit))
    ⊎ (((texts ≡ []) × (path ≡ names.script) × (limit ≡ script_limit) × ((schema : SchemaValue) × SchemaIs names.schema files (Ok schema)))
    ⊎ (AreBefore names files path texts × (limit ≡ load_limit)))

-- a file that fell due before these texts ended: the schema's, the script's behind an accepted schema, or that of a load whose reply
-- is among them
abbrev pub FellDue : Named → Option (List File) → List (List ℕ) → List ℕ → ℕ → Type 0
FellDue names files texts path limit =
    ((path ≡ names.schema) × (limit ≡ schema_limit))
    ⊎ (((path ≡ names.script) × (limit ≡ script_limit) × ((schema : SchemaValue) × SchemaIs names.schema files (Ok schema)))
    ⊎ ((limit ≡ load_limit) × ((before : List (List ℕ)) × (reply : List ℕ) × (behind : List (List ℕ)) × AreBefore names files path before × (texts ≡ before ++ reply ∷ behind))))

-- a file that falls due at some time
abbrev pub IsDue : Named → Option (List File) → List ℕ → ℕ → Type 0
IsDue names files path limit = (texts : List (List ℕ)) × FallsDue names files texts path limit
