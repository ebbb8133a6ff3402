-- The entries of an index, which is cut into chunks.
-- entry: the position of a row, beside a number of its value; chunk: entries that follow one another
use Rattle.std.specs.Prelude.{ℕ, List, map, take, drop, flat_map}
use Rattle.su_index.specs.declared.chunk.Chunk.{Chunk}
use Rattle.su_index.specs.declared.entry.Entry.{Entry}

-- the entries of the chunks
abbrev pub entries_of : List Chunk → List Entry
entries_of chunks = flat_map (λ chunk. chunk.entries.items) chunks

-- the positions of the entries
abbrev pub positions : List Entry → List ℕ
positions run = map (λ e. e.position) run

-- the positions of the entries past the first `at` ones, n of them
abbrev pub stretch : List Entry → ℕ → ℕ → List ℕ
stretch run at n = take n (drop at (positions run))
