-- The bytes that a statement is handed: those of the file that it wants, none where it wants none.
-- files: those of the shelf, where it tells them
use Rattle.std.specs.Prelude.{◌^◌, ℕ, List, Option, Some, None}
use Rattle.su_io.specs.declared.files.File.{File as AFile}
use Rattle.su_io.specs.FileEnds.{IsFile}
use Rattle.su_state.specs.DatabaseValue.{DatabaseValue}
use Rattle.su_session.specs.declared.wants.Want.TheVariants.{Nothing, File}
use Rattle.su_session.specs.WantedFiles.{Wants}

-- 64 MiB
abbrev pub load_limit : ℕ
load_limit = 2 ^ 26

-- what the statement is handed
abbrev pub IsHanded : Option (List AFile) → DatabaseValue → List ℕ → Option (List ℕ) → Type 0
IsHanded files db text None = Wants db text Nothing
IsHanded files db text (Some bytes) = (path : List ℕ) × Wants db text (File path) × IsFile files path load_limit bytes
