-- The tables that an executor reads.
-- number of a table: that of its relation
use Rattle.std.specs.Prelude.{ℕ, List, [], slice_index_or}
use Rattle.su_base.specs.declared.values.Value.{Value}
use Rattle.su_rel.specs.Stored.{Stored}

-- the table with the number; past the last one a table without rows
abbrev pub table_at : List Stored → ℕ → Stored
table_at tables table = slice_index_or tables table (record { width = 0; rows = [] })

-- its rows
abbrev pub rows_at : List Stored → ℕ → List (List Value)
rows_at tables table = (table_at tables table).rows
