-- Rows that are stored anywhere, by the columns of a schema.
-- stored: each relation has rows of its columns' kinds; they may be of any number, stand twice, and break dependencies
use Rattle.std.specs.Prelude.{ℕ, All}
use Rattle.su_state.specs.DatabaseValue.{DatabaseValue, HasColumnKinds, rows_of, columns_of}

-- each relation has rows of its columns' kinds
abbrev pub AreStored : DatabaseValue → Type 0
AreStored db = (relation : ℕ) → All (HasColumnKinds (columns_of db relation)) (rows_of db relation)
