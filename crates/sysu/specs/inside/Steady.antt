-- What a run comes to over files that its shelf tells, where no call fails.
-- words: those of the command line, without the program's name; names: the two files that they name; told: the shelf's files, where it tells them
-- accepted: the schema's file is read as a schema, and no file that falls due is past its limit
-- No public contract cites this module.
use Rattle.std.specs.Prelude.{◌≡◌, ℕ, List, Option, Some}
use Rattle.su_io.specs.declared.files.File.{File}
use Rattle.su_io.specs.declared.status.Status.{Status}
use Rattle.sysu.specs.Complete.{AreAccepted, IsFinished}
use Rattle.sysu.specs.Words.{Named, named}

-- where the files are accepted, a run over them comes to its end
abbrev pub FinishesOver : List (List ℕ) → Option (List File) → Status → Type 0
FinishesOver words told status = (names : Named) (files : List File) → named words ≡ Some names → told ≡ Some files → AreAccepted names files → IsFinished status
