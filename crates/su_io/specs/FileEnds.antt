-- How the reading of a file ends.
-- path: the file's name; limit: how many bytes it may have; old, new: before and after
use Rattle.std.specs.Prelude.{◌≡◌, ◌<◌, ◌≤◌, ℕ, List, Option, true, Result, Ok, Err, length}
use Rattle.su_io.specs.declared.files.File.{File}
use Rattle.su_io.specs.declared.status.Status.{Status}
use Rattle.su_io.specs.declared.status.Status.TheVariants.{ReadFault, TooLong, NoMemory}
use Rattle.su_io.specs.Causes.{Rose}
use Rattle.su_io.specs.Ends.{OfFile}
use Rattle.su_io.specs.Moments.{Moment}

-- the bytes are those of the named file, where the files are told, and no more than the limit
abbrev pub IsFile : Option (List File) → List ℕ → ℕ → List ℕ → Type 0
IsFile files path limit bytes = OfFile files path (λ file. bytes ≡ file) × (length bytes ≤ limit)

-- the named file has more than so many bytes, where the files are told
abbrev pub IsOver : Option (List File) → List ℕ → ℕ → Type 0
IsOver files path limit = OfFile files path (λ file. limit < length file)

-- by the status of the program, of the file begun last: a call of the shelf failed, the last one; or none did, and the file
-- is past its limit, and more than that was taken of it; or no more was
abbrev pub ReadingEnds : List ℕ → ℕ → Moment → Moment → Status → Type 0
ReadingEnds path limit old new ReadFault = Rose old.reads new.reads × (new.failed ≡ true)
ReadingEnds path limit old new TooLong = (new.reads ≡ old.reads) × (limit < new.taken) × IsOver old.files path limit
ReadingEnds path limit old new status = (new.reads ≡ old.reads) × (new.taken ≤ limit)

-- the whole file, or the status that its reading gives
abbrev pub FileEnds : List ℕ → ℕ → Moment → Moment → Result (List ℕ) Status → Type 0
FileEnds path limit old new (Ok bytes) = (new.reads ≡ old.reads) × (new.taken ≤ limit) × IsFile old.files path limit bytes
FileEnds path limit old new (Err ReadFault) = ReadingEnds path limit old new ReadFault
FileEnds path limit old new (Err TooLong) = ReadingEnds path limit old new TooLong
FileEnds path limit old new (Err NoMemory) = ReadingEnds path limit old new NoMemory
FileEnds path limit old new (Err _) = ⊥
