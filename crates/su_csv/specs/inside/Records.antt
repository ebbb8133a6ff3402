-- The records that a reader has left.
-- record: a list of fields, each a list of bytes; left: not read yet; state: what `csv` remembers of the bytes that it has read
-- before, after: the records that are left before a step and after it
-- No public contract cites this module.
use Rattle.std.specs.Prelude.{◌≡◌, ◌+◌, ℕ, Bool, true, false, List, [], ◌∷◌, length, Option, Some, None, IsSome}
use denote.Ref.{Bor}
use Rattle.csv.specs.Machine.{ends_at_end}
use Rattle.csv.specs.Reading.{Ready, default_config, reader_config, reader_state, reader_trim, records_from, source_of}
use Rattle.csv.specs.declared.parser.State.{State}
use Rattle.csv.specs.declared.reader.Reader.{Reader}
use Rattle.csv.specs.declared.reader.Trim.TheVariants as trim

-- the bytes that the reader has left, if it has not failed
abbrev pub bytes_left : Reader (Bor (List ℕ)) → Option (List ℕ)
bytes_left reader = source_of (λ s. Some s.now) reader

-- the records of a text that `csv` reads from a state
abbrev pub records_after : State → List ℕ → List (List (List ℕ))
records_after state text = records_from default_config (length text + 1) state text

-- the records of a text from a state on; none where there is no text
abbrev pub records_in : State → Option (List ℕ) → List (List (List ℕ))
records_in state None = []
records_in state (Some text) = records_after state text

-- the records that the reader has left
abbrev pub records_left : Reader (Bor (List ℕ)) → List (List (List ℕ))
records_left reader = records_in (reader_state reader) (bytes_left reader)

-- the reader stands before a record of a known text, and reads as `csv` does at its default settings
pub record Stands (reader : Reader (Bor (List ℕ))) : Type 0 where
  pub trim : reader_trim reader ≡ trim.None
  pub ready : Ready reader
  pub config : reader_config reader ≡ default_config
  pub between : ends_at_end (reader_state reader) ≡ false
  pub known : IsSome (bytes_left reader)

-- one record was taken, or there was none
abbrev pub Took : Bool → List (List ℕ) → List (List (List ℕ)) → List (List (List ℕ)) → Type 0
Took true fields before after = before ≡ fields ∷ after
Took false fields before after = before ≡ []
