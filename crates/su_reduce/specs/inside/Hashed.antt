-- What is true of rows with a hash table of their positions.
-- place: the number of a cell in a row; head of a bucket: the number after its last row; next: for each row the number after the one before it in its bucket
-- No public contract cites this module.
use Rattle.std.specs.Prelude.{ℕ, ◌<◌, ◌≤◌, List, length}
use Rattle.su_base.specs.Lists.{AllDiffer}
use Rattle.su_reduce.specs.Chains.{AreHeads, AreChains}
use Rattle.su_reduce.specs.Sheets.{Rows, AreBelow}

-- rows that differ, in buckets
pub record IsHashed (rows : Rows) (places heads next : List ℕ) : Type 0 where
  pub below : AreBelow places rows.width
  pub some : 0 < length heads
  pub room : length rows.rows ≤ length next
  pub each_head : AreHeads rows.rows places heads
  pub chains : AreChains rows.rows places (length heads) next
  pub differ : AllDiffer rows.rows
