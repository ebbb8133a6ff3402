-- Notes of rows by their values in some columns.
-- digest: a number made of a row's values in the columns, the same for rows that have the same ones
-- noted: a row whose digest has a place; digests of other rows may have one too
-- whole: notes of each row
-- No public contract cites this module.
use Rattle.std.specs.Prelude.{◌<◌, ◌+◌, ◌*◌, ◌%◌, ◌^◌, ℕ, List, Contains, cond, length, nat_eq, slice_index_or, IsTrue, pos}
use Rattle.std.proofs.Common.{zero, suc}
use Rattle.std.specs.FinSet.{FinSet, contains}
use Rattle.std.specs.HashMap.{HashMap, ContainsKey}
use Rattle.std.specs.Ordering.{nat_cmp}
use Rattle.su_base.specs.declared.values.Value.{Value}
use Rattle.su_base.specs.declared.values.Value.TheVariants.{Int}
use Rattle.su_index.specs.declared.notes.Notes.{Notes}
use Rattle.su_index.specs.inside.Lead.{lead_of}

-- a digest with one value more
abbrev pub digest_with : ℕ → Value → ℕ
digest_with digest value = ((digest * 11400714819323198485) % 2 ^ 64 + lead_of value) % 2 ^ 64

-- the digest of the values in those of the first n columns
abbrev pub digest_at : FinSet nat_cmp → List Value → ℕ → ℕ
digest_at columns row zero = 0
digest_at columns row (suc n) = cond (contains columns n) (digest_with (digest_at columns row n) (slice_index_or row n (Int (pos 0)))) (digest_at columns row n)

-- the digest of a row's values in these columns
abbrev pub digest_of : FinSet nat_cmp → List Value → ℕ
digest_of columns row = digest_at columns row (length row)

-- the digest of the row has a place
abbrev pub IsNoted : {S : Type 0} → FinSet nat_cmp → HashMap ℕ ℕ S → List Value → Type 0
IsNoted columns places row = ContainsKey nat_eq places (digest_of columns row)

-- each row is noted
abbrev pub AreNoted : {S : Type 0} → FinSet nat_cmp → HashMap ℕ ℕ S → List (List Value) → Type 0
AreNoted columns places rows = (row : List Value) → Contains rows row → IsNoted columns places row

-- where the notes are whole, each row is noted
abbrev pub AreNotes : List (List Value) → Notes → Type 0
AreNotes rows notes = IsTrue notes.whole → AreNoted notes.columns notes.places rows

-- each of the lists of notes, where it is whole, has all rows
abbrev pub AllAreNotes : List (List Value) → List Notes → Type 0
AllAreNotes rows all = (k : ℕ) (d : Notes) → k < length all → AreNotes rows (slice_index_or all k d)
