-- How the opening of a refused schema ends, from how its line is told.
use Rattle.std.proofs.Common.{◌≡◌, ◌≤◌, ◌⊎◌, ℕ, List, Option, Some, Err, refl, sym, subst, inl, inr}
use Rattle.su_io.specs.declared.files.File.{File}
use Rattle.su_io.specs.declared.status.Status.{Status}
use Rattle.su_io.specs.declared.status.Status.TheVariants.{BadSchema, NoMemory}
use Rattle.su_io.specs.Moments.{Moment}
use Rattle.su_io.specs.Programs.{TellsOfFile}
use Rattle.su_io.specs.FileEnds.{IsFile}
use Rattle.su_io.proofs.OneText.{tells_of_file, no_memory}
use Rattle.su_ddl.specs.Files.{Reads}
use Rattle.su_ddl.specs.declared.faults.DdlFault.{DdlFault}
use Rattle.su_ddl.specs.declared.faults.DdlFault.TheVariants.{NoMemory as OutOfMemory}
use Rattle.su_show.specs.Refusals.{IsLineFor}
use Rattle.su_files.specs.Openings.{IsSchemaLine}
use Rattle.su_files.specs.RunFiles.{schema_limit}
use Rattle.su_files.specs.inside.Tellings.{RefusalEnds}

-- the line of a refused schema, with its status
abbrev pub Refuses : List ℕ → Option (List File) → Status → List ℕ → Type 0
Refuses path files came line = (came ≡ BadSchema) × IsSchemaLine path files line

-- the file was read, and its schema is refused
module _ (path : List ℕ) (old mid new : Moment) (bytes : List ℕ) (is_schema : IsFile old.files path schema_limit bytes)
    (reads : mid.reads ≡ old.reads) (begun : mid.begun ≡ Some path) (taken : mid.taken ≤ schema_limit) (told : mid.told ≡ old.told) (writes : mid.writes ≡ old.writes)
    (fault : DdlFault) (at_fault : (fault ≡ OutOfMemory) ⊎ Reads bytes (Err fault)) where
  is_line : (line : List ℕ) → IsLineFor fault line → IsSchemaLine path old.files line
  is_line line shown = (
    fault,
    record {
      bytes = bytes;
      is_schema = is_schema;
      reads = elim at_fault [
        | inl none ↦ absurd (subst (λ (f : DdlFault). IsLineFor f line) none shown)
        | inr read ↦ read
      ];
    },
    shown,
  )

  pub refusal_told : (status : Status) → RefusalEnds fault mid new status → TellsOfFile path schema_limit (Refuses path old.files) old new status
  refusal_told status (inl (line, shown, ends)) =
      let says : Refuses path old.files BadSchema line = (refl, is_line line shown) in
      tells_of_file (Refuses path old.files) BadSchema line says (line, says, refl) (λ e. absurd (cc), λ e. absurd (cc)) path schema_limit old mid new reads begun taken told writes status ends
  refusal_told status (inr none) = subst (TellsOfFile path schema_limit (Refuses path old.files) old new) (sym none.0)
      (subst (λ (m : Moment). TellsOfFile path schema_limit (Refuses path old.files) old m NoMemory) (sym none.1) (no_memory (Refuses path old.files) path schema_limit old mid begun told writes reads taken))
